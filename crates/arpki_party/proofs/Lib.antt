pub mod FirstOwn
pub mod LaterKeys
