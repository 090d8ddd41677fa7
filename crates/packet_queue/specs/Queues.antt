-- The packets under way, and the threads through them.
use Rattle.std.specs.Prelude.{ℕ, ◌≡◌, ◌+◌, ◌<◌, ◌≤◌, nat_lt, Bool, true, false, cond, List, [], ◌∷◌, length, take, slice_index, slice_index_or, slice_set}

-- what callers see: the circuit of each packet sent, the first one first, and whether it is under way
pub record Queues : Type 0 where
  pub circuits : List ℕ
  pub underway : List Bool

abbrev pub queues_of : ℕ → List ℕ → List Bool → Queues
queues_of n cs ws = record { circuits = take n cs; underway = take n ws }

-- the numbers of those under way, ascending
abbrev pub numbers_of : ℕ → List Bool → List ℕ
numbers_of k [] = []
numbers_of k (w ∷ ws) = cond w (k ∷ numbers_of (k + 1) ws) (numbers_of (k + 1) ws)

-- a packet and the next of its circuit: nothing of the circuit lies between
pub record Chained (n : ℕ) (cs after : List ℕ) : Type 0 where
  pub least : (k m : ℕ) → k < m → m < n → slice_index cs k ≡ slice_index cs m → slice_index after k ≤ m
  pub onward : (k : ℕ) → k < n → slice_index after k < 4294967295 → (k < slice_index after k) × (slice_index after k < n) × (slice_index cs (slice_index after k) ≡ slice_index cs k)

-- the first packet of a circuit that is under way
pub record Head (n : ℕ) (cs : List ℕ) (ws : List Bool) (c h : ℕ) : Type 0 where
  pub below : (m : ℕ) → m < n → slice_index_or ws m false ≡ true → slice_index cs m ≡ c → h ≤ m
  pub there : h < 4294967295 → (h < n) × (slice_index cs h ≡ c) × (slice_index_or ws h false ≡ true)

pub record Threaded (n : ℕ) (cs : List ℕ) (ws : List Bool) (after first last : List ℕ) : Type 0 where
  pub count : n ≤ 262145
  pub circuits_room : length cs ≡ 262145
  pub underway_room : length ws ≡ 262145
  pub after_room : length after ≡ 262145
  pub first_room : length first ≡ 256
  pub last_room : length last ≡ 256
  pub circuits : (k : ℕ) → k < n → slice_index cs k < 256
  pub chained : Chained n cs after
  pub heads : (j : ℕ) → j < 256 → Head n cs ws j (slice_index first j)
  pub tails : (m : ℕ) → m < n → (m ≤ slice_index last (slice_index cs m)) × (slice_index last (slice_index cs m) < n)
  pub ends : (j : ℕ) → j < 256 → slice_index last j < 4294967295 → (slice_index last j < n) × (slice_index cs (slice_index last j) ≡ j)

abbrev pub linked : List ℕ → ℕ → ℕ → List ℕ
linked after last n = cond (nat_lt last n) (slice_set after last n) after

abbrev pub begun : List ℕ → ℕ → ℕ → List ℕ
begun first c n = cond (nat_lt n (slice_index first c)) (slice_set first c n) first

-- the least packet under way
pub record Lowest (n : ℕ) (ws : List Bool) (h : ℕ) : Type 0 where
  pub in_order : h ≤ n
  pub below : (m : ℕ) → m < n → slice_index_or ws m false ≡ true → h ≤ m
  pub there : h < n → slice_index_or ws h false ≡ true
