-- The struct of AES-GCM-SIV that a caller keeps: a key, of 16 or 32 bytes.
use Rattle.std.specs.Prelude.{◌⊎◌, ℕ, ◌^◌, ◌<◌, ◌≤◌}
use Rattle.gcm_siv.specs.GcmSiv.{IsSivKeySize}
use Rattle.gcm_c.specs.Form.{KeptKey, IsKept}

-- whether a struct holds a key of AES-GCM-SIV
abbrev pub HoldsSivKey : KeptKey → Type 0
HoldsSivKey siv = IsSivKeySize siv.length

-- a struct in order, as set_key and wipe leave it, and as zeros are
abbrev pub IsSivMade : KeptKey → Type 0
IsSivMade siv = HoldsSivKey siv → IsKept siv

-- as many bytes of additional data, or of text, as a message can have (RFC 8452, 4)
abbrev pub IsSivLength : ℕ → Type 0
IsSivLength n = n ≤ 2 ^ 36

-- more bytes of additional data, or of text, than a message can have (RFC 8452, 4)
abbrev pub IsSivTooLong : ℕ → ℕ → Type 0
IsSivTooLong additional text = (2 ^ 36 < additional) ⊎ (2 ^ 36 < text)
