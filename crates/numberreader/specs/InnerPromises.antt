-- What inner readers of bytes, gaps and numbers promise: what they came to, and where they stand.
use Rattle.std.specs.Prelude.{ℕ, ◌≤◌, ◌<◌, Bool, ◌&&◌, List, ◌≡◌, Option, MatchOption, leb, length}
use Rattle.numberreader.specs.Reading.{Read, found, fault, gap}
use Rattle.numberreader.specs.declared.Number.{Number}

-- whether a byte is a digit
unfoldable pub is_digit : ℕ → Bool
is_digit b = leb 48 b && leb b 57

-- a reader that began at `at` came to a place in the text that is no less
pub record Reached (text : List ℕ) (at next : ℕ) : Type 0 where
  pub within : next ≤ length text
  pub past : at ≤ next

-- what stands between two items ends here
pub record GapFound (text : List ℕ) (at end : ℕ) : Type 0 where
  pub value : gap text at ≡ found tt end
  pub within : end ≤ length text
  pub past : at < end

-- what stands between two items was looked for
abbrev pub GapRead : List ℕ → ℕ → Option ℕ → Type 0
GapRead text at r = MatchOption r (gap text at ≡ fault) (GapFound text at)

-- a reader of a number came to what `d` says: this number, and a place that is a byte further on at least
pub record NumberFound (text : List ℕ) (at : ℕ) (d : Read ℕ) (v : Number) : Type 0 where
  pub value : d ≡ found v.value v.next
  pub within : v.next ≤ length text
  pub past : at < v.next

-- a number was looked for
abbrev pub NumberRead : List ℕ → ℕ → Read ℕ → Option Number → Type 0
NumberRead text at d r = MatchOption r (d ≡ fault) (NumberFound text at d)
