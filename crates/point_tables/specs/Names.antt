-- Names of points and of candidates, as of the records of any table. This project's own.
pub use Rattle.table_columns.specs.Names.{is_among, is_name, is_name_byte, place_of}
