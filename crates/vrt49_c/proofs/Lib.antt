-- Each export is the function of its name in `vrt49`.
pub mod Tied
