-- What a reader must believe of text: its bytes, the digits of a number, and what putting a text does.
pub mod Ascii
pub mod Decimal
pub mod Put
