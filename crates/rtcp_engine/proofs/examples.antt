mod ChangeRows
mod ForgettingRows
mod HearingRows
mod LateRows
mod LeavingRows
mod Rows
mod SettingsRows
mod WrongRows
