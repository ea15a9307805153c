-- Words kept three times, copy after copy: n words are 3 * n numbers, and copy c of word k is number c * n + k.
use Rattle.std.specs.Prelude.{◌≡◌, ℕ, ◌+◌, ◌*◌, ◌<◌, cond, ◌⊎◌, List, ◌++◌, map, length, ◌==◌, slice_index, slice_set}
use Rattle.std.specs.List.{range_with_len}
use Rattle.memory.specs.Keeper.{Keeper}

abbrev pub copy : ℕ → List ℕ → ℕ → ℕ → ℕ
copy n m c k = slice_index m (c * n + k)

-- of three numbers the one on which two agree, the first if none do
abbrev pub majority : ℕ → ℕ → ℕ → ℕ
majority a b c = cond (a == b) a (cond (a == c) a (cond (b == c) b a))

unfoldable pub voted : ℕ → List ℕ → ℕ → ℕ
voted n m k = majority (copy n m 0 k) (copy n m 1 k) (copy n m 2 k)

-- the n words that are read of a memory
unfoldable pub voted_words : ℕ → List ℕ → List ℕ
voted_words n m = map (voted n m) (range_with_len 0 n)

-- a memory that was written with these words
abbrev pub thrice : List ℕ → List ℕ
thrice ws = ws ++ (ws ++ ws)

-- how many numbers n words take
abbrev pub size : ℕ → ℕ
size n = 3 * n

abbrev pub Holds : ℕ → List ℕ → List ℕ → Type 0
Holds n m ws = (length ws ≡ n) × (m ≡ thrice ws)

-- copy c of word k is as it was
abbrev pub Spared : ℕ → List ℕ → List ℕ → ℕ → ℕ → Type 0
Spared n m h c k = copy n h c k ≡ copy n m c k

-- at least two copies of each word are as they were
pub record Upset (n : ℕ) (m h : List ℕ) : Type 0 where
  pub long : length h ≡ length m
  pub two : (k : ℕ) → k < n
      → (Spared n m h 1 k × Spared n m h 2 k)
      ⊎ ((Spared n m h 0 k × Spared n m h 2 k) ⊎ (Spared n m h 0 k × Spared n m h 1 k))

-- n words kept three times
abbrev pub threefold : ℕ → Keeper (List ℕ)
threefold n = record {
  size = size n;
  read = voted_words n;
  stored = thrice;
  Holds = Holds n;
  Upset = Upset n;
}

-- upsets do happen: none at all is one, and so is any number in any one copy of a word that had been spared so far
pub record UpsetsHappen : Type 0 where
  pub none : (n : ℕ) (m : List ℕ) → Upset n m m
  pub one : (n : ℕ) (m h : List ℕ) (c k v : ℕ) → c < 3 → k < n → Upset n m h
      → ((d : ℕ) → d < 3 → Spared n m h d k) → Upset n m (slice_set h (c * n + k) v)
