mod GuardRows
mod WrongRows
