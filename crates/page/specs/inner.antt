-- What the functions inside promise each other.

-- the tests of a page
pub mod Tested
-- the held words of a part of the bits
pub mod Squeezed
