mod Notes
mod Said
mod Since
