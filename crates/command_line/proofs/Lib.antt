mod Asked
mod Entered
mod Exact
mod Filled
mod Told
