mod Rows
mod WrongRows
