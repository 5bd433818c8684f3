pub mod TightNetworks
