pub mod AlarmTexts
pub mod Alarms
pub mod Watches
