mod Numbers
mod Forms
mod Codes
mod Lines
mod Drafts
mod Scripts
mod OneLine
mod OneScript
