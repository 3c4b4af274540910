pub mod WantRefusal
