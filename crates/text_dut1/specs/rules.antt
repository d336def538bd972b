-- What a reader must believe of UT1 − UTC as text. Definitions only.
pub mod Scan
pub mod Dut1
