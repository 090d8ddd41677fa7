-- What a table serves to a look is what the tree serves: the only kept version, or the kept one that is asked, by a site that
-- holds it; or why there is none.
use Rattle.std.proofs.Common.{◌≡◌, ℕ, ◌==◌, Bool, true, false, ◌&&◌, ◌||◌, cond, List, [], ◌∷◌, filter, map, Option, Some, None, refl, sym, ap, ◌∙◌, subst, inl, inr, arith}
use Rattle.std.proofs.lemmas.Bool.Decides.{nat_tests}
use Rattle.role_steps.proofs.of_plain_facts.Numbers.{equal}
use Rattle.role_steps.proofs.of_plain_facts.Options.{none_some, some_same}
use Rattle.role_steps.proofs.of_plain_facts.Tests.{true_false}
use Rattle.locus_ids.specs.declared.ids.Stamp.{Stamp}
use Rattle.commit_graph.specs.Versions.{same_stamp}
use Rattle.trace_book.specs.declared.operation.What.{What}
use Rattle.trace_book.specs.declared.operation.What.TheVariants as what
use Rattle.trace_book.specs.declared.operation.Served.{Served}
use Rattle.trace_book.specs.declared.operation.Served.TheVariants as served
use Rattle.role_steps.specs.Own.{Every}
use Rattle.role_steps.specs.Looks.{Service, Denies, Serves, only_kept as serves_only, whole_kept, served_by as serves_at, service}
use Rattle.role_steps.specs.Versions.{kept, holders_of, holding_site, is_among, chosen_site}
use Rattle.role_steps.specs.Views.{Frame}
use Rattle.role_steps.specs.declared.synchronizing.FileRow.{FileRow}
use Rattle.role_steps.specs.declared.synchronizing.Holding.{Holding}
use Rattle.role_steps.specs.declared.synchronizing.VersionRow.{VersionRow}
use Rattle.the_run.specs.Kept.{Among}
use Rattle.tree_model.specs.Given.{only_kept, served_by}
use Rattle.tree_model.specs.Same.{is_served}
use Rattle.tree_model.specs.State.{has_stamp}
use Rattle.tree_laws.specs.Tables.{HasHolder, row_stamp}
use Rattle.tree_laws.proofs.Orders.Standing.{same_stamp_eq}

pub stamp_own : (s : Stamp) → same_stamp s s ≡ true
stamp_own s = grind (arith, nat_tests)

-- ---- a holder is chosen ----

pub among_is : (s : ℕ) (ss : List ℕ) → is_among s ss ≡ true → Among s ss
among_is s [] e = absurd (true_false (sym e))
among_is s (x ∷ xs) e = over (x == s) refl e (among_is s xs)
  where
    over : (b : Bool) → (x == s) ≡ b → b || is_among s xs ≡ true → (is_among s xs ≡ true → Among s xs) → Among s (x ∷ xs)
    over true k e later = inl (sym (equal x s k))
    over false k e later = inr (later e)

pub record IsChosen (us css : ℕ) (holders : List ℕ) : Type 0 where
  pub site : ℕ
  pub chosen : chosen_site us css holders ≡ Some site
  pub among : Among site holders

-- where there is a holder, one is chosen
pub holder_chosen : (us css s : ℕ) (holders : List ℕ) → Among s holders → IsChosen us css holders
holder_chosen us css s [] a = absurd a
holder_chosen us css s (h ∷ hs) a = over (is_among us (h ∷ hs)) (is_among css (h ∷ hs)) refl refl
  where
    over : (x y : Bool) → is_among us (h ∷ hs) ≡ x → is_among css (h ∷ hs) ≡ y → IsChosen us css (h ∷ hs)
    over true y e k = record { site = us; chosen = ap (λ (b : Bool). cond b (Some us) (cond (is_among css (h ∷ hs)) (Some css) (Some h))) e; among = among_is us (h ∷ hs) e }
    over false true e k = record { site = css; chosen = ap (λ (b : Bool). cond b (Some us) (cond (is_among css (h ∷ hs)) (Some css) (Some h))) e ∙ ap (λ (b : Bool). cond b (Some css) (Some h)) k; among = among_is css (h ∷ hs) k }
    over false false e k = record { site = h; chosen = ap (λ (b : Bool). cond b (Some us) (cond (is_among css (h ∷ hs)) (Some css) (Some h))) e ∙ ap (λ (b : Bool). cond b (Some css) (Some h)) k; among = inl refl }

-- who is chosen is a holder
pub chosen_among : (us css : ℕ) (holders : List ℕ) (s : ℕ) → chosen_site us css holders ≡ Some s → Among s holders
chosen_among us css [] s e = absurd (none_some s e)
chosen_among us css (h ∷ hs) s e =
    let one : IsChosen us css (h ∷ hs) = holder_chosen us css h (h ∷ hs) (inl refl) in
    subst (λ (x : ℕ). Among x (h ∷ hs)) (some_same one.site s (sym one.chosen ∙ e)) one.among

among_filter : {A : Type 0} (p : A → Bool) (x : A) (xs : List A) → Among x xs → p x ≡ true → Among x (filter p xs)
among_filter p x [] a k = absurd a
among_filter p x (y ∷ ys) (inl e) k = subst (λ (b : Bool). Among x (cond b (y ∷ filter p ys) (filter p ys))) (sym (ap p (sym e) ∙ k)) (inl e)
among_filter p x (y ∷ ys) (inr a) k = over (among_filter p x ys a k) (p y)
  where
    over : Among x (filter p ys) → (b : Bool) → Among x (cond b (y ∷ filter p ys) (filter p ys))
    over later true = inr later
    over later false = later

among_map : {A B : Type 0} (f : A → B) (x : A) (xs : List A) → Among x xs → Among (f x) (map f xs)
among_map f x [] a = absurd a
among_map f x (y ∷ ys) (inl e) = inl (ap f e)
among_map f x (y ∷ ys) (inr a) = inr (among_map f x ys a)

pub holder_there : (r : FileRow) (v : VersionRow) (stamp : Stamp) → v.stamp ≡ stamp → (h : HasHolder r v) → Among h.0.site (holders_of r stamp)
holder_there r v stamp e h = among_map holding_site h.0 (filter (λ (x : Holding). same_stamp x.stamp stamp) r.holders)
    (among_filter (λ (x : Holding). same_stamp x.stamp stamp) h.0 r.holders h.1 (subst (λ (s : Stamp). same_stamp s stamp ≡ true) (sym (h.2 ∙ e)) (stamp_own stamp)))

-- a site among the holders of a version is noted for it
pub record IsHolder (r : FileRow) (stamp : Stamp) (site : ℕ) : Type 0 where
  pub holding : Holding
  pub there : Among holding r.holders
  pub stamp_is : holding.stamp ≡ stamp
  pub site_is : holding.site ≡ site

holder_within : (r : FileRow) (stamp : Stamp) (site : ℕ) (xs : List Holding) → ((x : Holding) → Among x xs → Among x r.holders) → Among site (map holding_site (filter (λ (x : Holding). same_stamp x.stamp stamp) xs)) → IsHolder r stamp site
holder_within r stamp site [] within a = absurd a
holder_within r stamp site (x ∷ xs) within a = at (λ (m : Among site (map holding_site (filter (λ (y : Holding). same_stamp y.stamp stamp) xs))). holder_within r stamp site xs (λ y z. within y (inr z)) m) (same_stamp x.stamp stamp) refl a
  where
    at : (Among site (map holding_site (filter (λ (y : Holding). same_stamp y.stamp stamp) xs)) → IsHolder r stamp site) → (b : Bool) → same_stamp x.stamp stamp ≡ b
        → Among site (map holding_site (cond b (x ∷ filter (λ (y : Holding). same_stamp y.stamp stamp) xs) (filter (λ (y : Holding). same_stamp y.stamp stamp) xs))) → IsHolder r stamp site
    at later true k (inl e) = record { holding = x; there = within x (inl refl); stamp_is = same_stamp_eq x.stamp stamp k; site_is = sym e }
    at later true k (inr m) = later m
    at later false k m = later m

pub holder_is : (r : FileRow) (stamp : Stamp) (site : ℕ) → Among site (holders_of r stamp) → IsHolder r stamp site
holder_is r stamp site a = holder_within r stamp site r.holders (λ x k. k) a

-- ---- what is served ----

-- it is what the tree serves, and of a row's kept versions
abbrev pub ServedWell : Option Served → Option FileRow → Service → Type 0
ServedWell gives known (Denies why) = is_served gives (served.No why) ≡ true
ServedWell gives known (Serves v site) = (is_served gives (served.At v.stamp) ≡ true) × ((r : FileRow) × (known ≡ Some r) × Among v r.kept)

abbrev pub AllHeld : Option FileRow → Type 0
AllHeld None = Unit {0}
AllHeld (Some r) = Every (HasHolder r) r.kept

only_well : (f : Frame) (us : ℕ) (r : FileRow) (vs : List VersionRow) → ((v : VersionRow) → Among v vs → Among v r.kept) → Every (HasHolder r) vs → ServedWell (Some (only_kept (map row_stamp vs))) (Some r) (serves_only f us r vs)
only_well f us r [] within held = refl
only_well f us r (v ∷ []) within held =
    let one : IsChosen us f.me (holders_of r v.stamp) = holder_chosen us f.me held.0.0.site (holders_of r v.stamp) (holder_there r v v.stamp refl held.0) in
    subst (λ (o : Option ℕ). ServedWell (Some (served.At v.stamp)) (Some r) (serves_at v o)) (sym one.chosen) (stamp_own v.stamp, (r, refl, within v (inl refl)))
only_well f us r (v ∷ w ∷ others) within held = both (same_stamp v.stamp v.stamp) (same_stamp w.stamp w.stamp) (stamp_own v.stamp) (stamp_own w.stamp)
  where
    both : (a b : Bool) → a ≡ true → b ≡ true → a && b ≡ true
    both true b e k = k
    both false b e k = e

whole_well : (f : Frame) (r : FileRow) (stamp : Stamp) (vs : List VersionRow) → ((v : VersionRow) → Among v vs → Among v r.kept) → Every (HasHolder r) vs → has_stamp (map row_stamp vs) stamp ≡ true → ServedWell (Some (served.At stamp)) (Some r) (whole_kept f r stamp vs)
whole_well f r stamp [] within held has = absurd (true_false (sym has))
whole_well f r stamp (v ∷ vs) within held has = at (λ (k : has_stamp (map row_stamp vs) stamp ≡ true). whole_well f r stamp vs (λ x m. within x (inr m)) held.1 k) (same_stamp v.stamp stamp) refl has
  where
    here : same_stamp v.stamp stamp ≡ true → ServedWell (Some (served.At stamp)) (Some r) (serves_at v (chosen_site f.me f.me (holders_of r stamp)))
    here k =
        let is : v.stamp ≡ stamp = same_stamp_eq v.stamp stamp k in
        let one : IsChosen f.me f.me (holders_of r stamp) = holder_chosen f.me f.me held.0.0.site (holders_of r stamp) (holder_there r v stamp is held.0) in
        subst (λ (o : Option ℕ). ServedWell (Some (served.At stamp)) (Some r) (serves_at v o)) (sym one.chosen) (subst (λ (s : Stamp). same_stamp s v.stamp ≡ true) is (stamp_own v.stamp), (r, refl, within v (inl refl)))

    at : (has_stamp (map row_stamp vs) stamp ≡ true → ServedWell (Some (served.At stamp)) (Some r) (whole_kept f r stamp vs)) → (b : Bool) → same_stamp v.stamp stamp ≡ b → b || has_stamp (map row_stamp vs) stamp ≡ true
        → ServedWell (Some (served.At stamp)) (Some r) (elim b [ true ↦ serves_at v (chosen_site f.me f.me (holders_of r stamp)) | false ↦ whole_kept f r stamp vs ])
    at later true k has = here k
    at later false k has = later has

-- whole contents are asked of kept versions alone
abbrev pub AsksKept : What → List Stamp → Type 0
AsksKept (what.Whole stamp) ks = has_stamp ks stamp ≡ true
AsksKept w ks = Unit {0}

row_well : (f : Frame) (us : ℕ) (w : What) (r : FileRow) → AllHeld (Some r) → AsksKept w (map row_stamp r.kept) → ServedWell (served_by w (map row_stamp r.kept)) (Some r) (service f us w (Some r))
row_well f us (what.Name component) r held asks = only_well f us r r.kept (λ v k. k) held
row_well f us what.List r held asks = only_well f us r r.kept (λ v k. k) held
row_well f us what.Stat r held asks = only_well f us r r.kept (λ v k. k) held
row_well f us (what.Whole stamp) r held asks = subst (λ (b : Bool). ServedWell (cond b (Some (served.At stamp)) None) (Some r) (whole_kept f r stamp r.kept)) (sym asks) (whole_well f r stamp r.kept (λ v k. k) held asks)

none_well : (f : Frame) (us : ℕ) (w : What) → AsksKept w [] → ServedWell (served_by w []) None (service f us w None)
none_well f us (what.Name component) asks = refl
none_well f us what.List asks = refl
none_well f us what.Stat asks = refl
none_well f us (what.Whole stamp) asks = absurd (true_false (sym asks))

known_well : (f : Frame) (us : ℕ) (w : What) (known : Option FileRow) → AllHeld known → AsksKept w (map row_stamp (kept known)) → ServedWell (served_by w (map row_stamp (kept known))) known (service f us w known)
known_well f us w None held asks = none_well f us w asks
known_well f us w (Some r) held asks = row_well f us w r held asks

pub served_well : (f : Frame) (us : ℕ) (w : What) (known : Option FileRow) (ks : List Stamp) → map row_stamp (kept known) ≡ ks → AllHeld known → AsksKept w ks → ServedWell (served_by w ks) known (service f us w known)
served_well f us w known ks e held asks = subst (λ (xs : List Stamp). AsksKept w xs → ServedWell (served_by w xs) known (service f us w known)) e (known_well f us w known held) asks
