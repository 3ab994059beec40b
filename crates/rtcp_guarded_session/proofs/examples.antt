mod GoodbyeRows
mod GoodbyeWrongs
mod ReportRows
