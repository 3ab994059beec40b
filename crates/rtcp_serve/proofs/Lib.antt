mod LinkCalls
mod Pauses
mod SessionAccounts
