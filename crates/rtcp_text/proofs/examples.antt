mod AnswerRows
mod EventRows
mod WrongRows
