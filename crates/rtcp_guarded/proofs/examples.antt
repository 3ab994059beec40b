mod GuardedRows
mod WrongRows
