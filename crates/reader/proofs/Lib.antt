mod Ends
mod Lines
mod Items
mod Forms
