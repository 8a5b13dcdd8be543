-- The version as one number: "major * 1,000,000 + minor * 1,000 + patch" (include/floodneedle.h).
use Rattle.std.specs.Prelude.{ℕ, ◌+◌, ◌*◌}

abbrev pub version_of : ℕ → ℕ → ℕ → ℕ
version_of major minor patch = major * 1000000 + minor * 1000 + patch

-- 0.2.0, as the file VERSION has it
abbrev pub version_number : ℕ
version_number = version_of 0 2 0
