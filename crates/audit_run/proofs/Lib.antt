mod Hearings
mod Ending
