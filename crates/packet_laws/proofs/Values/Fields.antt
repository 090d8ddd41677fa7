-- Fields of packets: sites that are listed, stamps, vectors, and what stands in lists.
use Rattle.std.proofs.Common.{◌≡◌, ◌≤◌, ◌<◌, ◌^◌, ℕ, zero, suc, ◌+◌, ◌-◌, ◌==◌, nat_lt, max, Bool, true, false, cond, ◌&&◌, List, [], ◌∷◌, map, length, refl, sym, ◌∙◌, arith}
use Rattle.std.proofs.lemmas.Bool.Decides.{nat_tests}
use Rattle.std.specs.Prelude.{slice_index, replicate}
use Rattle.std.specs.List.{flat_map, list_all}
use Rattle.role_steps.proofs.of_plain_facts.Tests.{both_true}
use Rattle.locus_ids.specs.Sites.{has}
use Rattle.locus_ids.specs.declared.ids.Kind.{Kind}
use Rattle.locus_ids.specs.declared.ids.Kind.TheVariants.{File, Dir}
use Rattle.locus_ids.specs.declared.sites.Sites.{Sites}
use Rattle.locus_ids.specs.Sizes.{file_bytes_max, inodes_max, sites_max}
use Rattle.version_vector.specs.Counters.{joined, part, raised}
use Rattle.version_vector.proofs.Counting.{part-raised_same}
use Rattle.dir_format.specs.Entries.{nothing_seen}
use Rattle.field_codec.specs.Codec.{u32}
use Rattle.field_codec.specs.Lists.{AllFit}
use Rattle.wire_fields.specs.Parts.{sites, sizes, inodes, kinds, stamps, vectors}
use Rattle.wire_fields.proofs.Members.{in_range, range}
use Rattle.wire_messages.specs.Answers.{versions}
use Rattle.wire_messages.specs.declared.body.Body.{Body}
use Rattle.wire_messages.specs.declared.packet.Packet.{Packet}
use Rattle.role_steps.specs.Own.{Every}
use Rattle.role_steps.specs.Tables.{with_latest}
use Rattle.role_steps.specs.Views.{Frame, boot_in, packet, to_some, to_sync, first_site, is_member, members_of, pack_sites, all_sites}
use Rattle.role_steps.proofs.Sending.{every_append}
use Rattle.the_run.proofs.Boots.{every_weaker}
use Rattle.packet_laws.specs.Fitting.Fields.{AreBoots, IsSite}
use Rattle.packet_laws.proofs.Fitting.FormingRun.{site_fits}
use Rattle.packet_laws.proofs.Fitting.Meeting.{every_passing, listed_site, not_none}
use Rattle.packet_laws.specs.Values.Bodies.{FitsBut, IsListed, NamesListed, NamesNone}
use Rattle.packet_laws.specs.Values.Values.{SentFits}

-- ---- lists ----

pub every_latest : {A : Type 0} (P : A → Type 0) (key : A → ℕ) (x : A) (xs : List A) → P x → Every P xs → Every P (with_latest key x xs)
every_latest P key x [] p h = (p, tt)
every_latest {A} P key x (y ∷ ys) p h = over (key y == key x) (every_latest P key x ys p h.1)
  where
    over : (b : Bool) → Every P (with_latest key x ys) → Every P (elim b as (λ (t : Bool). List A) [ true ↦ x ∷ ys | false ↦ y ∷ with_latest key x ys ])
    over true rest = (p, h.1)
    over false rest = (h.0, rest)

pub every_some : {A B : Type 0} (P : A → Type 0) (Q : B → Type 0) (g : A → B) (xs : List A) → ((x : A) → P x → Q (g x)) → Every P xs → Every Q (map g xs)
every_some P Q g [] f h = tt
every_some P Q g (x ∷ xs) f h = (f x h.0, every_some P Q g xs f h.1)

pub every_flat : {A B : Type 0} (P : A → Type 0) (Q : B → Type 0) (g : A → List B) (xs : List A) → ((x : A) → P x → Every Q (g x)) → Every P xs → Every Q (flat_map g xs)
every_flat P Q g [] f h = tt
every_flat P Q g (x ∷ xs) f h = every_append Q (g x) (flat_map g xs) (f x h.0) (every_flat P Q g xs f h.1)

-- ---- sites ----

pub listed_fits : (boots : List ℕ) (s : ℕ) → AreBoots boots → IsListed boots s → sites.Fits s
listed_fits boots s fit h = site_fits s (listed_site boots s fit h).0

-- a packet to a member
pub one_fits : (f : Frame) (to : ℕ) (b : Body) → IsListed f.members.boot to → FitsBut b → NamesListed f.members.boot b → SentFits f.members.boot (packet f to b)
one_fits f to b listed fits names = record { to = listed; boot = refl; body = fits; names = names }

first_fits : (f : Frame) (b : Body) (ss : List ℕ) → FitsBut b → NamesListed f.members.boot b → Every (IsListed f.members.boot) ss → Every (SentFits f.members.boot) (to_some f b (first_site ss))
first_fits f b [] fits names h = tt
first_fits f b (s ∷ ss) fits names h = (one_fits f s b h.0 fits names, tt)

pub members_listed : (f : Frame) (set : Sites) → Every (IsListed f.members.boot) (members_of f.members set)
members_listed f set = every_weaker (λ (s : ℕ). (has set s && is_member f.members s) ≡ true) (IsListed f.members.boot) (members_of f.members set) (λ s h. not_none (boot_in f.members.boot s) (both_true (has set s) (is_member f.members s) h).1) (every_passing (λ (s : ℕ). has set s && is_member f.members s) all_sites)

-- a packet to a synchronization site
pub sync_fits : (f : Frame) (group : ℕ) (b : Body) → FitsBut b → NamesListed f.members.boot b → Every (SentFits f.members.boot) (to_sync f group b)
sync_fits f group b fits names = first_fits f b (members_of f.members (pack_sites f.config group)) fits names (members_listed f (pack_sites f.config group))

-- ---- packets that name no site ----

abbrev pub AskedFits : List ℕ → Packet → Type 0
AskedFits boots p = SentFits boots p × NamesNone p.body

pub one_asks : (f : Frame) (to : ℕ) (b : Body) → IsListed f.members.boot to → FitsBut b → NamesNone b → AskedFits f.members.boot (packet f to b)
one_asks f to b listed fits none = (one_fits f to b listed fits (none f.members.boot), none)

first_asks : (f : Frame) (b : Body) (ss : List ℕ) → FitsBut b → NamesNone b → Every (IsListed f.members.boot) ss → Every (AskedFits f.members.boot) (to_some f b (first_site ss))
first_asks f b [] fits none h = tt
first_asks f b (s ∷ ss) fits none h = (one_asks f s b h.0 fits none, tt)

pub sync_asks : (f : Frame) (group : ℕ) (b : Body) → FitsBut b → NamesNone b → Every (AskedFits f.members.boot) (to_sync f group b)
sync_asks f group b fits none = first_asks f b (members_of f.members (pack_sites f.config group)) fits none (members_listed f (pack_sites f.config group))

-- ---- numbers ----

pub kind_fits : (k : Kind) → kinds.Fits k
kind_fits File = (omega arith, refl, (refl, tt))
kind_fits Dir = (omega arith, refl, (refl, tt))

pub size_fits : (n : ℕ) → n ≤ file_bytes_max → sizes.Fits n
size_fits n h = (in_range 0 file_bytes_max n (omega arith) h, omega (arith, h))

pub size_most : (n : ℕ) → sizes.Fits n → n ≤ file_bytes_max
size_most n h = (range 0 file_bytes_max n h.0).1

pub ino_fits : (n : ℕ) → 1 ≤ n → n ≤ inodes_max → inodes.Fits n
ino_fits n low high = (in_range 1 inodes_max n low high, omega (arith, high))

pub ino_range : (n : ℕ) → inodes.Fits n → (1 ≤ n) × (n ≤ inodes_max)
ino_range n h = range 1 inodes_max n h.0

-- ---- vectors ----

abbrev pub Counters : List ℕ → Type 0
Counters v = AllFit (λ (_ : Unit {0}). u32) (λ _ _. tt) tt v

pub counters_at : (v : List ℕ) (k : ℕ) → Counters v → slice_index v k < 2 ^ 32
counters_at [] k h = omega arith
counters_at (x ∷ v) zero h = h.0
counters_at (x ∷ v) (suc k) h = counters_at v k h.1

raised_counters : (v : List ℕ) (k : ℕ) → k < length v → slice_index v k < 4294967295 → Counters v → Counters (raised v k)
raised_counters [] k inside low h = absurd (omega (arith, inside))
raised_counters (x ∷ v) zero inside low h = (omega (arith, low), h.1)
raised_counters (x ∷ v) (suc k) inside low h = (h.0, raised_counters v k (omega (arith, inside)) low h.1)

raised_length : (v : List ℕ) (k : ℕ) → k < length v → length (raised v k) ≡ length v
raised_length [] k inside = absurd (omega (arith, inside))
raised_length (x ∷ v) zero inside = omega arith
raised_length (x ∷ v) (suc k) inside = let h : length (raised v k) ≡ length v = raised_length v k (omega (arith, inside)) in omega (arith, h)

pub raised_fits : (v : List ℕ) (k : ℕ) → k < sites_max → (slice_index v k == 4294967295) ≡ false → vectors.Fits v → vectors.Fits (raised v k)
raised_fits v k inside unspent h = ((h.0.0 ∙ sym (raised_length v k within), tt), raised_counters v k within (lower (slice_index v k) unspent (counters_at v k h.1)) h.1)
  where
    within : k < length v
    within = let e : sites_max ≡ length v = h.0.0 in omega (arith, inside, e)

    lower : (n : ℕ) → (n == 4294967295) ≡ false → n < 2 ^ 32 → n < 4294967295
    lower n e l = grind (arith, nat_tests)

joined_counters : (a b : List ℕ) → Counters a → Counters b → Counters (joined a b)
joined_counters [] b h k = k
joined_counters (x ∷ a) [] h k = h
joined_counters (x ∷ a) (y ∷ b) h k = (more x y h.0 k.0, joined_counters a b h.1 k.1)
  where
    more : (x y : ℕ) → x < 2 ^ 32 → y < 2 ^ 32 → max x y < 2 ^ 32
    more x y h k = omega (arith, h, k)

joined_length : (a b : List ℕ) → length a ≡ length b → length (joined a b) ≡ length b
joined_length [] b e = refl
joined_length (x ∷ a) [] e = e
joined_length (x ∷ a) (y ∷ b) e = let h : length (joined a b) ≡ length b = joined_length a b (omega (arith, e)) in omega (arith, h)

pub joined_fits : (a b : List ℕ) → vectors.Fits a → vectors.Fits b → vectors.Fits (joined a b)
joined_fits a b h k = ((k.0.0 ∙ sym (joined_length a b (sym h.0.0 ∙ k.0.0)), tt), joined_counters a b h.1 k.1)

zero_counters : (n : ℕ) → Counters (replicate n 0)
zero_counters zero = tt
zero_counters (suc n) = (omega arith, zero_counters n)

pub nothing_fits : vectors.Fits nothing_seen
nothing_fits = ((refl, tt), zero_counters sites_max)

-- ---- stamps ----

no_stamp_fits : stamps.Fits (record { site = 0; n = 0 })
no_stamp_fits = ((refl, omega arith), (refl, omega arith))

pub none_fits : stamps.Fits (record { site = 0; n = 0 })
none_fits = no_stamp_fits

zero_none : (z : ℕ) → 1 ≤ z → (z == 0) ≡ false
zero_none z low = grind (arith, nat_tests)

is_own_stamp : (z n : ℕ) → 1 ≤ z → 1 ≤ n → cond (z == 0) (n == 0) (nat_lt 0 n) ≡ true
is_own_stamp z n low some = at (z == 0) (zero_none z low)
  where
    positive : nat_lt 0 n ≡ true
    positive = grind (arith, nat_tests)

    at : (t : Bool) → t ≡ false → cond t (n == 0) (nat_lt 0 n) ≡ true
    at true e = absurd (cc)
    at false e = positive

agrees_own : (z n : ℕ) (other : Bool) → 1 ≤ z → cond (z == 0) other (n == n) ≡ true
agrees_own z n other low = at (z == 0) (zero_none z low)
  where
    same : (n == n) ≡ true
    same = grind (arith, nat_tests)

    at : (t : Bool) → t ≡ false → cond t other (n == n) ≡ true
    at true e = absurd (cc)
    at false e = same

-- the next version of a site
pub next_fits : (v : List ℕ) (me : ℕ) → IsSite me → (slice_index v (me - 1) == 4294967295) ≡ false → vectors.Fits v → versions.Fits (record { site = me; n = slice_index (raised v (me - 1)) (me - 1) }, raised v (me - 1))
next_fits v me site unspent h =
    (((in_range 0 sites_max me (omega arith) site.1, omega (arith, site.1)), (is_own_stamp me n site.0 some, counters_at (raised v (me - 1)) (me - 1) new.1)), (agrees_own me n (list_all (λ (k : ℕ). k == 0) (raised v (me - 1))) site.0, new))
  where
    below : (z : ℕ) → 1 ≤ z → z ≤ sites_max → z - 1 < sites_max
    below z a b = omega (arith, a, b)

    new : vectors.Fits (raised v (me - 1))
    new = raised_fits v (me - 1) (below me site.0 site.1) unspent h

    n : ℕ
    n = slice_index (raised v (me - 1)) (me - 1)

    some : 1 ≤ n
    some = let e : n ≡ part v (me - 1) + 1 = part-raised_same v (me - 1) in omega (arith, e)
