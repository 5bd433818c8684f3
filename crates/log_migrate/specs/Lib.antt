pub mod FirstUse
pub mod Migrated
pub mod NewLog
