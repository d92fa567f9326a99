mod Attempts
mod Loaded
mod Looked
mod Made
mod Saved
mod Consoles
