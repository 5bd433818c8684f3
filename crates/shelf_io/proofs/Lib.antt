pub mod FaultLaws
pub mod FileLaws
pub mod StoredLaws
pub mod WrittenLaws
