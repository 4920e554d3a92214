-- The version of the interface: major × 10000 + minor × 100 + patch. HUZ_VERSION in include/huztiral.h is the same number (tests/smoke.c compares).
use Rattle.std.specs.Prelude.{ℕ}

-- 0.15.0
abbrev pub version : ℕ
version = 1500
