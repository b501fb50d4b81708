mod Booking
mod Limits
mod Overlays
mod Sealings
mod Tabling
mod Tracing
