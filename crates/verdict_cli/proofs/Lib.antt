mod Texts
mod Digits
mod Requests
mod Refusals
mod Follows
