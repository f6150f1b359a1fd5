-- Lemmas and worked rows.
mod Rows
mod Looking
mod Running
mod Spaces
mod FirstNewline
mod Spelled
mod LineByLine
mod UpTo
mod Standing
mod Others
mod Put
mod TextLines
