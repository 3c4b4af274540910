-- What the table keeps, and how it shows as rows. No public clause cites these.
pub mod Keys
