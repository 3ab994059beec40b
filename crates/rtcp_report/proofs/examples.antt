mod WrongRows
