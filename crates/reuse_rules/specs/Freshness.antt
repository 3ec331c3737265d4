-- Whether a copy may still be served (RFC 9111, section 4.2). All numbers are seconds.
use Rattle.std.specs.Prelude.{ℕ, ◌+◌, ◌-◌, ◌^◌, min, Bool, nat_lt}

-- the age that came with the response plus the time since the request, at most the greatest number
-- of 64 bits; time that runs back counts as 0 (RFC 9111, section 4.2.3, without the apparent age,
-- since `date` is not used) [Lifetime 4]
abbrev pub age_now : ℕ → ℕ → ℕ → ℕ
age_now age asked now = min (age + (now - asked)) (2 ^ 64 - 1)

-- a copy is fresh while its age is less than its lifetime [Lifetime 3]
abbrev pub is_fresh : ℕ → ℕ → ℕ → ℕ → Bool
is_fresh age asked now lifetime = nat_lt (age_now age asked now) lifetime
