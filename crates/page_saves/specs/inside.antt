pub mod OneCommit
