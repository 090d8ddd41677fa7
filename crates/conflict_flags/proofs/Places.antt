-- Copies by place.
use Rattle.std.proofs.Common.{Ok, Err, ℕ, zero, suc, ◌+◌, ◌-◌, ◌<◌, ◌≤◌, Bool, true, List, [], ◌∷◌, ◌++◌, Option, Some, None, take, length, get_or, set, ◌≡◌, refl, sym, ◌∙◌, ap, arith}
use Rattle.std.proofs.lemmas.List.{take_more, take_more_set}
use Rattle.std.proofs.lemmas.Bool.{lt-ltb}
use Rattle.std.proofs.lemmas.Bool.Decides.{nat_tests}
use Rattle.locus_ids.specs.Sizes.{sites_max}
use Rattle.locus_ids.specs.declared.ids.Stamp.{Stamp}
use Rattle.version_vector.specs.Counters.{part, raised}
use Rattle.version_vector.proofs.Counting.{part-raised_same}
use Rattle.commit_graph.specs.declared.history.Version.{Version}
use Rattle.commit_graph.proofs.Names.{stamp_eq}
use Rattle.conflict_flags.specs.declared.held.Held.{Held}
use Rattle.conflict_flags.specs.Table.{Table, the_file, is_site, copy_at, copy_of, put, present, grown, counted, takes, adopted, Does}
use Rattle.conflict_flags.specs.declared.table.TableFault.TheVariants as faults

pub get_or-copy_at : (cs : List (Option Held)) (i : ℕ) (d : Option Held) → i < length cs → get_or cs i d ≡ copy_at cs i
get_or-copy_at [] i d h = absurd (omega arith)
get_or-copy_at (c ∷ cs) zero d h = refl
get_or-copy_at (c ∷ cs) (suc i) d h = get_or-copy_at cs i d (omega arith)

pub set-put : (cs : List (Option Held)) (i : ℕ) (c : Held) → i < length cs → set cs i (Some c) ≡ put cs i c
set-put [] i c h = absurd (omega arith)
set-put (d ∷ cs) zero c h = refl
set-put (d ∷ cs) (suc i) c h = ap (λ ds. d ∷ ds) (set-put cs i c (omega arith))

pub site_test : (site : ℕ) → 1 ≤ site → site ≤ sites_max → is_site site ≡ true
site_test site low high = grind (arith, nat_tests)

-- a counter that was raised was not spent
pub room : (v vector : List ℕ) (at n : ℕ) → vector ≡ raised v at → n ≡ part vector at → n < 4294967296 → part v at < 4294967295
room v vector at n e k h =
    let grew : part vector at ≡ part v at + 1 = ap (λ (u : List ℕ). part u at) e ∙ part-raised_same v at in
    omega arith

pub counted_ok : (w : Table) (site : ℕ) (parents : List Stamp) (v : List ℕ) → 1 ≤ site → site ≤ sites_max → part v (site - 1) < 4294967295 → counted w site parents v ≡ Ok (grown w site parents v)
counted_ok w site parents v low high h = rw (site_test site low high, lt-ltb (part v (site - 1)) 4294967295 h) refl

pub lacks_memory : (w : Table) (site : ℕ) (parents : List Stamp) (v : List ℕ) → 1 ≤ site → site ≤ sites_max → part v (site - 1) < 4294967295 → Does {X = Stamp} w (counted w site parents v) (Err faults.NoMemory) w
lacks_memory w site parents v low high h = rw (counted_ok w site parents v low high h) refl

pub table_eq : (a b : List Version) (c d : List (Option Held)) → a ≡ b → c ≡ d → let u : Table = record { history = a; copies = c } in let w : Table = record { history = b; copies = d } in u ≡ w
table_eq a b c d e f = cc

-- what the table has after a new version
pub does_grow : (w : Table) (site at : ℕ) (parents : List Stamp) (v vector : List ℕ) (s : Stamp) (ps : List Stamp) (content : List ℕ) (history new : List Version) (copies : List (Option Held)) →
    1 ≤ site → site ≤ sites_max → part v (site - 1) < 4294967295 → at ≡ site - 1 →
    history ≡ w.history → copies ≡ w.copies → vector ≡ raised v (site - 1) → s.site ≡ site → s.n ≡ part vector (site - 1) → ps ≡ parents → content ≡ [] →
    (let x : Version = record { file = the_file; site = s.site; stamp = s; parents = ps; content = content } in new ≡ x ∷ history) → at < length copies →
    (let t : Table = record { history = new; copies = set copies at (Some (record { site = s.site; stamp = s; vector = vector })) } in Does {X = Stamp} w (counted w site parents v) (Ok s) t)
does_grow w site at parents v vector s ps content history new copies low high h place old same vec by n pars none more within =
    let stamp : Stamp = record { site = site; n = part v (site - 1) + 1 } in
    let is : s ≡ stamp = stamp_eq s stamp by (n ∙ (ap (λ (u : List ℕ). part u (site - 1)) vec ∙ part-raised_same v (site - 1))) in
    let x : Version = record { file = the_file; site = s.site; stamp = s; parents = ps; content = content } in
    let y : Version = record { file = the_file; site = site; stamp = stamp; parents = parents; content = [] } in
    let alike : x ≡ y = ap (λ (t : Stamp). (let z : Version = record { file = the_file; site = t.site; stamp = t; parents = ps; content = content } in z)) is
    ∙ (ap (λ (qs : List Stamp). (let z : Version = record { file = the_file; site = site; stamp = stamp; parents = qs; content = content } in z)) pars
    ∙ ap (λ (b : List ℕ). (let z : Version = record { file = the_file; site = site; stamp = stamp; parents = parents; content = b } in z)) none) in
    let held : Held = record { site = s.site; stamp = s; vector = vector } in
    let copy : Held = record { site = site; stamp = stamp; vector = raised v (site - 1) } in
    let the_copy : held ≡ copy = ap (λ (t : Stamp). (let z : Held = record { site = t.site; stamp = t; vector = vector } in z)) is
    ∙ ap (λ (u : List ℕ). (let z : Held = record { site = site; stamp = stamp; vector = u } in z)) vec in
    let histories : new ≡ y ∷ w.history = more ∙ (ap (λ (z : Version). z ∷ history) alike ∙ ap (λ (older : List Version). y ∷ older) old) in
    let places : set copies at (Some held) ≡ put w.copies (site - 1) copy = set-put copies at held within
    ∙ (ap (λ (z : Held). put copies at z) the_copy ∙ (ap (λ (cs : List (Option Held)). put cs at copy) same ∙ ap (λ (i : ℕ). put w.copies i copy) place)) in
    rw (counted_ok w site parents v low high h) (table_eq _ _ _ _ histories places)

-- what the table has after a copy was taken
pub does_take : (w : Table) (site from at by : ℕ) (copy : Held) (history : List Version) (copies : List (Option Held)) (took : Bool) →
    at ≡ site - 1 → by ≡ site → history ≡ w.history → copies ≡ w.copies → copy_of w from ≡ Some copy → takes copy (copy_of w site) ≡ true → at < length copies →
    (let t : Table = record { history = history; copies = set copies at (Some (record { site = by; stamp = copy.stamp; vector = copy.vector })) } in Does {X = Bool} w (adopted w site (copy_of w from)) (Ok took) t)
does_take w site from at by copy history copies took place its old same held wanted within =
    let new : Held = record { site = by; stamp = copy.stamp; vector = copy.vector } in
    let own : Held = record { site = site; stamp = copy.stamp; vector = copy.vector } in
    let alike : new ≡ own = ap (λ (s : ℕ). (let z : Held = record { site = s; stamp = copy.stamp; vector = copy.vector } in z)) its in
    let places : set copies at (Some new) ≡ put w.copies (site - 1) own = set-put copies at new within
    ∙ (ap (λ (z : Held). put copies at z) alike ∙ (ap (λ (cs : List (Option Held)). put cs at own) same ∙ ap (λ (i : ℕ). put w.copies i own) place)) in
    rw (held, wanted) (table_eq _ _ _ _ old places)

present_push : (cs : List (Option Held)) (c : Held) → present (cs ++ Some c ∷ []) ≡ present cs ++ c ∷ []
present_push [] c = refl
present_push (None ∷ cs) c = present_push cs c
present_push (Some d ∷ cs) c = ap (λ (ds : List Held). d ∷ ds) (present_push cs c)

present_pass : (cs : List (Option Held)) → present (cs ++ None ∷ []) ≡ present cs
present_pass [] = refl
present_pass (None ∷ cs) = present_pass cs
present_pass (Some d ∷ cs) = ap (λ (ds : List Held). d ∷ ds) (present_pass cs)

-- one more place, with a copy or without
pub present_more : (cs : List (Option Held)) (items : List Held) (len i : ℕ) (c : Held) (d : Option Held) → i < length cs → len < length items → take len items ≡ present (take i cs) → get_or cs i d ≡ Some c →
    take (len + 1) (set items len c) ≡ present (take (i + 1) cs)
present_more cs items len i c d h room_left done is =
    take_more_set items len c room_left ∙ (ap (λ (ds : List Held). ds ++ c ∷ []) done
    ∙ sym (ap present (take_more cs i d h ∙ ap (λ (x : Option Held). take i cs ++ x ∷ []) is) ∙ present_push (take i cs) c))

pub present_same : (cs : List (Option Held)) (i : ℕ) (d : Option Held) → i < length cs → ((x : Held) → get_or cs i d ≡ Some x → ⊥) → present (take i cs) ≡ present (take (i + 1) cs)
present_same cs i d h isnt = sym (ap present (take_more cs i d h ∙ ap (λ (x : Option Held). take i cs ++ x ∷ []) (none_of (get_or cs i d) isnt)) ∙ present_pass (take i cs)) where
  none_of : (o : Option Held) → ((x : Held) → o ≡ Some x → ⊥) → o ≡ None
  none_of None isnt = refl
  none_of (Some x) isnt = absurd (isnt x refl)
