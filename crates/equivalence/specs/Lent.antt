-- Lent bytes: what is written to them, where, and what stays.
use Rattle.std.specs.Prelude.{ℕ, ◌*◌, List, ◌++◌, length, take, drop, ⊤, Result, Ok, Err}
use Rattle.equivalence.specs.declared.Refusal.{Refusal}

-- the lent bytes with the new ones at their start
unfoldable pub written : List ℕ → List ℕ → List ℕ
written new lent = new ++ drop (length new) lent

-- the lent bytes with the new ones from place `at` on
unfoldable pub laid : List ℕ → ℕ → List ℕ → List ℕ
laid lent at new = take at lent ++ written new (drop at lent)

-- stretch number i of those of length n that follow each other
unfoldable pub stretch : ℕ → List ℕ → ℕ → List ℕ
stretch n l i = take n (drop (i * n) l)

-- the lent bytes after a call: a refusal writes nothing
unfoldable pub lent_after : Result ⊤ Refusal → List ℕ → List ℕ → List ℕ
lent_after (Ok x) new lent = written new lent
lent_after (Err r) new lent = lent
