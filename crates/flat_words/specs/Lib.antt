pub mod FlatCommand
