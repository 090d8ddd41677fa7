-- What a Notify, a Delta and a Page leave of a site's pulls: a pull over the copy that the site has goes on, where no version above it is
-- named, and one that is whole stays as it is. What is whole then was whole before, or has become so.
use Rattle.std.proofs.Common.{Bool, List, None, Option, Some, [], ap, arith, false, inl, inr, not, refl, subst, sym, true, ℕ, ◌++◌, ◌==◌, ◌||◌, ◌∙◌, ◌∷◌, ◌≡◌, ◌⊎◌}
use Rattle.std.proofs.lemmas.Bool.Decides.{nat_tests}
use Rattle.std.specs.Option.{is_some}
use Rattle.calm_laws.proofs.Lists.{row_key}
use Rattle.commit_graph.specs.Versions.{same_stamp}
use Rattle.calm_laws.proofs.Convergence.Lists.{among_row}
use Rattle.calm_laws.proofs.Convergence.Vectors.{number_test}
use Rattle.calm_laws.specs.Convergence.Offers.{offer_of}
use Rattle.locus_ids.specs.declared.ids.FileId.{FileId}
use Rattle.locus_ids.specs.declared.ids.Stamp.{Stamp}
use Rattle.role_steps.proofs.Rows.{row_other, row_same}
use Rattle.role_steps.proofs.of_plain_facts.Numbers.{equal}
use Rattle.role_steps.proofs.of_plain_facts.Options.{some_same}
use Rattle.role_steps.proofs.of_plain_facts.Tests.{both_true, true_false}
use Rattle.role_steps.specs.Pulling.{begins_pull, goes_on, is_awaited, is_complete, is_delta, is_over, on_delta_of, on_notify, on_page_of, pull_key, pull_of, pull_over, replaces_pull}
use Rattle.role_steps.specs.Tables.{row, with_row}
use Rattle.role_steps.specs.Versions.{is_below}
use Rattle.role_steps.specs.Views.{Frame, Outcome, file_key, packet, quiet, sends}
use Rattle.role_steps.specs.declared.copies.FileCopy.{FileCopy}
use Rattle.role_steps.specs.declared.pulls.Pull.{Pull}
use Rattle.the_run.specs.Kept.{Among}
use Rattle.wire_messages.specs.declared.body.Body.TheVariants as body

-- the same version goes on being pulled over the same copy, and what was whole stays so
pub record GoesOnAs (old new : Pull) : Type 0 where
  pub offer : offer_of new ≡ offer_of old
  pub base : new.base ≡ old.base
  pub whole : is_complete old ≡ true → new ≡ old

pub goes_as : (p : Pull) → GoesOnAs p p
goes_as p = record { offer = refl; base = refl; whole = λ h. refl }

-- so does the pull of this file, which is over this copy
pub record GoesOn (file : FileId) (p : Pull) (new : List Pull) : Type 0 where
  pub now : Pull
  pub found : pull_of new file ≡ Some now
  pub goes : GoesOnAs p now

pub goes_still : (file : FileId) (p : Pull) (ps : List Pull) → pull_of ps file ≡ Some p → GoesOn file p ps
goes_still file p ps there = record { now = p; found = there; goes = goes_as p }

-- a pull takes the place of that of its file
in_place : (file about : FileId) (p q new : Pull) (ps : List Pull) → pull_of ps file ≡ Some p → pull_of ps about ≡ Some q → pull_key new ≡ file_key about → GoesOnAs q new → GoesOn file p (with_row pull_key new ps)
in_place file about p q new ps there found key goes_so = by_key (number_test (pull_key new) (file_key file))
  where
    by_key : ((pull_key new == file_key file) ≡ true) ⊎ ((pull_key new == file_key file) ≡ false) → GoesOn file p (with_row pull_key new ps)
    by_key (inr ne) = goes_still file p (with_row pull_key new ps) (row_other pull_key new (file_key file) ps ne ∙ there)
    by_key (inl e) =
        let eq : pull_key new ≡ file_key file = equal (pull_key new) (file_key file) e in
        record {
          now = new;
          found = ap (λ (k : ℕ). row pull_key k (with_row pull_key new ps)) (sym eq) ∙ row_same pull_key new ps;
          goes = subst (λ (z : Pull). GoesOnAs z new) (some_same q p (sym found ∙ (ap (λ (k : ℕ). row pull_key k ps) (sym key ∙ eq) ∙ there))) goes_so;
        }

false_true : false ≡ true → ⊥
false_true e = cc

-- ---- Notify ----

module _ (f : Frame) (own : Option FileCopy) (n : Pull) (ps : List Pull) where
  key_of : (o : Option FileCopy) → pull_key (pull_over o n) ≡ file_key n.file
  key_of None = refl
  key_of (Some x) = refl

  offer_at : (o : Option FileCopy) → offer_of (pull_over o n) ≡ offer_of n
  offer_at None = refl
  offer_at (Some x) = refl

  over_itself : (o : Option FileCopy) → is_over o (pull_over o n).base ≡ true
  over_itself None = refl
  over_itself (Some x) = stamp_itself x.stamp
    where
      stamp_itself : (a : Stamp) → same_stamp a a ≡ true
      stamp_itself a = grind (arith, nat_tests)

  -- a pull over the copy goes on, where the version that is named isn't above it
  abbrev StaysLow : FileId → Pull → Type 0
  StaysLow file p = file_key n.file ≡ file_key file → (is_over own p.base ≡ true) × (is_below p.vector n.vector ≡ false)

  begins_goes : (file : FileId) (p : Pull) → pull_of ps file ≡ Some p → StaysLow file p → GoesOn file p (begins_pull f own n ps).view
  begins_goes file p there low = by_test (replaces_pull own n (pull_of ps n.file)) refl
    where
      kept : (a b : Bool) → a ≡ false → b ≡ true → (a || not b) ≡ false
      kept false true x y = refl
      kept false false x y = absurd (false_true y)
      kept true b x y = absurd (true_false x)

      apart : replaces_pull own n (pull_of ps n.file) ≡ true → ((file_key n.file == file_key file) ≡ true) ⊎ ((file_key n.file == file_key file) ≡ false) → (file_key n.file == file_key file) ≡ false
      apart h (inr ne) = ne
      apart h (inl e) =
          let eq : file_key n.file ≡ file_key file = equal (file_key n.file) (file_key file) e in
          absurd (true_false (sym h ∙ (ap (replaces_pull own n) (ap (λ (k : ℕ). row pull_key k ps) eq ∙ there) ∙ kept (is_below p.vector n.vector) (is_over own p.base) (low eq).1 (low eq).0)))

      by_test : (b : Bool) → replaces_pull own n (pull_of ps n.file) ≡ b → GoesOn file p (elim b as (λ (z : Bool). Outcome (List Pull)) [ true ↦ goes_on f (pull_over own n) ps | false ↦ quiet ps ]).view
      by_test false h = goes_still file p ps there
      by_test true h = goes_still file p (with_row pull_key (pull_over own n) ps)
          (row_other pull_key (pull_over own n) (file_key file) ps (ap (λ (k : ℕ). k == file_key file) (key_of own) ∙ apart h (number_test (file_key n.file) (file_key file))) ∙ there)

  -- what is whole then was whole, or the site has no copy of the file
  abbrev WasWhole : Pull → Type 0
  WasWhole y = Among y ps ⊎ ((own ≡ None) × (offer_of y ≡ offer_of n))

  begins_whole : (y : Pull) → Among y (begins_pull f own n ps).view → is_complete y ≡ true → WasWhole y
  begins_whole y = by_test (replaces_pull own n (pull_of ps n.file))
    where
      by_own : (o : Option FileCopy) → own ≡ o → y ≡ pull_over o n → is_complete y ≡ true → WasWhole y
      by_own None is eq w = inr (is, ap offer_of eq)
      by_own (Some x) is eq w = absurd (false_true (sym (ap is_complete eq) ∙ w))

      over : (y ≡ pull_over own n) ⊎ Among y ps → is_complete y ≡ true → WasWhole y
      over (inl eq) w = by_own own refl eq w
      over (inr b) w = inl b

      by_test : (b : Bool) → Among y (elim b as (λ (z : Bool). Outcome (List Pull)) [ true ↦ goes_on f (pull_over own n) ps | false ↦ quiet ps ]).view → is_complete y ≡ true → WasWhole y
      by_test false a w = inl a
      by_test true a w = over (among_row pull_key (pull_over own n) y ps a) w

  -- then a version is pulled over the copy: the one that is named, or another one that isn't below it and was pulled before
  abbrev pub Begins : List Pull → Type 0
  Begins new = (now : Pull) × (pull_of new n.file ≡ Some now) × (is_over own now.base ≡ true) × ((offer_of now ≡ offer_of n) ⊎ (Among now ps × (is_below now.vector n.vector ≡ false)))

  pub begun : Begins (begins_pull f own n ps).view
  begun = by_pull (pull_of ps n.file) refl
    where
      Is : Outcome (List Pull) → Type 0
      Is o = Begins o.view

      new : Is (goes_on f (pull_over own n) ps)
      new = (pull_over own n, ap (λ (k : ℕ). row pull_key k (with_row pull_key (pull_over own n) ps)) (sym (key_of own)) ∙ row_same pull_key (pull_over own n) ps, over_itself own, inl (offer_at own))

      by_test : (q : Pull) → pull_of ps n.file ≡ Some q → (a b : Bool) → is_below q.vector n.vector ≡ a → is_over own q.base ≡ b → Is (elim (a || not b) [ true ↦ goes_on f (pull_over own n) ps | false ↦ quiet ps ])
      by_test q there true b x y = new
      by_test q there false false x y = new
      by_test q there false true x y = (q, there, y, inr ((row_key pull_key (file_key n.file) ps q there).0, x))

      by_pull : (o : Option Pull) → pull_of ps n.file ≡ o → Is (elim (replaces_pull own n o) [ true ↦ goes_on f (pull_over own n) ps | false ↦ quiet ps ])
      by_pull None e = new
      by_pull (Some q) e = by_test q e (is_below q.vector n.vector) (is_over own q.base) refl refl

-- the notice is taken, where the site has no copy or one below it
module _ (f : Frame) (from : ℕ) (own : Option FileCopy) (n : Pull) (ps : List Pull) where
  pub notify_goes : (file : FileId) (p : Pull) → pull_of ps file ≡ Some p → StaysLow f own n ps file p → GoesOn file p (on_notify f from own n ps).view
  notify_goes file p there low = by_own own refl
    where
      Is : Outcome (List Pull) → Type 0
      Is o = GoesOn file p o.view

      begins : (o : Option FileCopy) → own ≡ o → Is (begins_pull f o n ps)
      begins o is = subst (λ (z : Option FileCopy). Is (begins_pull f z n ps)) is (begins_goes f own n ps file p there low)

      by_below : (x : FileCopy) → own ≡ Some x → (b : Bool) → Is (elim b [ true ↦ begins_pull f (Some x) n ps | false ↦ quiet ps ])
      by_below x is true = begins (Some x) is
      by_below x is false = goes_still file p ps there

      by_stamp : (x : FileCopy) → own ≡ Some x → (b : Bool) → Is (elim b [ true ↦ sends (packet f from (body.Have n.file n.stamp) ∷ []) ps | false ↦ elim (is_below x.vector n.vector) [ true ↦ begins_pull f (Some x) n ps | false ↦ quiet ps ] ])
      by_stamp x is true = goes_still file p ps there
      by_stamp x is false = by_below x is (is_below x.vector n.vector)

      by_own : (o : Option FileCopy) → own ≡ o → Is (on_notify f from o n ps)
      by_own None is = begins None is
      by_own (Some x) is = by_stamp x is (same_stamp x.stamp n.stamp)

  pub notify_whole : (y : Pull) → Among y (on_notify f from own n ps).view → is_complete y ≡ true → Among y ps ⊎ ((own ≡ None) × (offer_of y ≡ offer_of n))
  notify_whole y = by_own own refl
    where
      Is : Outcome (List Pull) → Type 0
      Is o = Among y o.view → is_complete y ≡ true → Among y ps ⊎ ((own ≡ None) × (offer_of y ≡ offer_of n))

      begins : (o : Option FileCopy) → own ≡ o → Is (begins_pull f o n ps)
      begins o is = subst (λ (z : Option FileCopy). Is (begins_pull f z n ps)) is (begins_whole f own n ps y)

      by_below : (x : FileCopy) → own ≡ Some x → (b : Bool) → Is (elim b [ true ↦ begins_pull f (Some x) n ps | false ↦ quiet ps ])
      by_below x is true = begins (Some x) is
      by_below x is false = λ a w. inl a

      by_stamp : (x : FileCopy) → own ≡ Some x → (b : Bool) → Is (elim b [ true ↦ sends (packet f from (body.Have n.file n.stamp) ∷ []) ps | false ↦ elim (is_below x.vector n.vector) [ true ↦ begins_pull f (Some x) n ps | false ↦ quiet ps ] ])
      by_stamp x is true = λ a w. inl a
      by_stamp x is false = by_below x is (is_below x.vector n.vector)

      by_own : (o : Option FileCopy) → own ≡ o → Is (on_notify f from o n ps)
      by_own None is = begins None is
      by_own (Some x) is = by_stamp x is (same_stamp x.stamp n.stamp)

  -- the site has the version, or not one below it
  abbrev pub HasHigh : Option FileCopy → Type 0
  HasHigh None = ⊥
  HasHigh (Some x) = (same_stamp x.stamp n.stamp ≡ true) ⊎ (is_below x.vector n.vector ≡ false)

  pub notify_begins : Begins f own n ps (on_notify f from own n ps).view ⊎ HasHigh own
  notify_begins = by_own own refl
    where
      Is : Option FileCopy → Outcome (List Pull) → Type 0
      Is z o = Begins f own n ps o.view ⊎ HasHigh z

      begins : (o : Option FileCopy) → own ≡ o → Begins f own n ps (begins_pull f o n ps).view
      begins o is = subst (λ (z : Option FileCopy). Begins f own n ps (begins_pull f z n ps).view) is (begun f own n ps)

      by_below : (x : FileCopy) → own ≡ Some x → (b : Bool) → is_below x.vector n.vector ≡ b → Is (Some x) (elim b [ true ↦ begins_pull f (Some x) n ps | false ↦ quiet ps ])
      by_below x is true e = inl (begins (Some x) is)
      by_below x is false e = inr (inr e)

      by_stamp : (x : FileCopy) → own ≡ Some x → (b : Bool) → same_stamp x.stamp n.stamp ≡ b → Is (Some x) (elim b [ true ↦ sends (packet f from (body.Have n.file n.stamp) ∷ []) ps | false ↦ elim (is_below x.vector n.vector) [ true ↦ begins_pull f (Some x) n ps | false ↦ quiet ps ] ])
      by_stamp x is true e = inr (inl e)
      by_stamp x is false e = by_below x is (is_below x.vector n.vector) refl

      by_own : (o : Option FileCopy) → own ≡ o → Is o (on_notify f from o n ps)
      by_own None is = inl (begins None is)
      by_own (Some x) is = by_stamp x is (same_stamp x.stamp n.stamp) refl

-- ---- Delta ----

module _ (f : Frame) (own : ℕ) (stamp : Stamp) (pages : List ℕ) (about : FileId) (ps : List Pull) where
  unanswered : (q : Pull) → is_delta own q stamp pages ≡ true → is_complete q ≡ true → ⊥
  unanswered q h w = over (is_some q.wanted) (both_true (not (is_some q.wanted)) _ (both_true (same_stamp q.stamp stamp) _ h).1).0 (both_true (is_some q.wanted) _ w).0
    where
      over : (b : Bool) → not b ≡ true → b ≡ true → ⊥
      over true x y = false_true x
      over false x y = false_true y

  delta_goes_of : (file : FileId) (p : Pull) → pull_of ps file ≡ Some p → (o : Option Pull) → pull_of ps about ≡ o → GoesOn file p (on_delta_of f own stamp pages o ps).view
  delta_goes_of file p there None e = goes_still file p ps there
  delta_goes_of file p there (Some q) e = by_test (is_delta own q stamp pages) refl
    where
      so : is_delta own q stamp pages ≡ true → GoesOnAs q (record q { wanted = Some pages })
      so h = record { offer = refl; base = refl; whole = λ w. absurd (unanswered q h w) }

      by_test : (b : Bool) → is_delta own q stamp pages ≡ b → GoesOn file p (elim b as (λ (z : Bool). Outcome (List Pull)) [ true ↦ goes_on f (record q { wanted = Some pages }) ps | false ↦ quiet ps ]).view
      by_test true h = in_place file about p q (record q { wanted = Some pages }) ps there e (row_key pull_key (file_key about) ps q e).1 (so h)
      by_test false h = goes_still file p ps there

  pub delta_goes : (file : FileId) (p : Pull) → pull_of ps file ≡ Some p → GoesOn file p (on_delta_of f own stamp pages (pull_of ps about) ps).view
  delta_goes file p there = delta_goes_of file p there (pull_of ps about) refl

  delta_whole_of : (y : Pull) (o : Option Pull) → pull_of ps about ≡ o → Among y (on_delta_of f own stamp pages o ps).view → Among y ps ⊎ (pull_key y ≡ file_key about)
  delta_whole_of y None e = λ a. inl a
  delta_whole_of y (Some q) e = by_test (is_delta own q stamp pages)
    where
      over : (y ≡ record q { wanted = Some pages }) ⊎ Among y ps → Among y ps ⊎ (pull_key y ≡ file_key about)
      over (inl eq) = inr (ap pull_key eq ∙ (row_key pull_key (file_key about) ps q e).1)
      over (inr b) = inl b

      by_test : (b : Bool) → Among y (elim b as (λ (z : Bool). Outcome (List Pull)) [ true ↦ goes_on f (record q { wanted = Some pages }) ps | false ↦ quiet ps ]).view → Among y ps ⊎ (pull_key y ≡ file_key about)
      by_test true a = over (among_row pull_key (record q { wanted = Some pages }) y ps a)
      by_test false a = inl a

  pub delta_whole : (y : Pull) → Among y (on_delta_of f own stamp pages (pull_of ps about) ps).view → Among y ps ⊎ (pull_key y ≡ file_key about)
  delta_whole y = delta_whole_of y (pull_of ps about) refl

-- ---- Page ----

module _ (f : Frame) (stamp : Stamp) (page : ℕ) (bytes : List ℕ) (about : FileId) (ps : List Pull) where
  unfinished : (q : Pull) → is_awaited q stamp page bytes ≡ true → is_complete q ≡ true → ⊥
  unfinished q h w = over (is_complete q) (both_true (not (is_complete q)) _ (both_true (is_some q.wanted) _ (both_true (same_stamp q.stamp stamp) _ h).1).1).0 w
    where
      over : (b : Bool) → not b ≡ true → b ≡ true → ⊥
      over true x y = false_true x
      over false x y = false_true y

  page_goes_of : (file : FileId) (p : Pull) → pull_of ps file ≡ Some p → (o : Option Pull) → pull_of ps about ≡ o → GoesOn file p (on_page_of f stamp page bytes o ps).view
  page_goes_of file p there None e = goes_still file p ps there
  page_goes_of file p there (Some q) e = by_test (is_awaited q stamp page bytes) refl
    where
      so : is_awaited q stamp page bytes ≡ true → GoesOnAs q (record q { content = q.content ++ bytes })
      so h = record { offer = refl; base = refl; whole = λ w. absurd (unfinished q h w) }

      by_test : (b : Bool) → is_awaited q stamp page bytes ≡ b → GoesOn file p (elim b as (λ (z : Bool). Outcome (List Pull)) [ true ↦ goes_on f (record q { content = q.content ++ bytes }) ps | false ↦ quiet ps ]).view
      by_test true h = in_place file about p q (record q { content = q.content ++ bytes }) ps there e (row_key pull_key (file_key about) ps q e).1 (so h)
      by_test false h = goes_still file p ps there

  pub page_goes : (file : FileId) (p : Pull) → pull_of ps file ≡ Some p → GoesOn file p (on_page_of f stamp page bytes (pull_of ps about) ps).view
  page_goes file p there = page_goes_of file p there (pull_of ps about) refl

  page_whole_of : (y : Pull) (o : Option Pull) → pull_of ps about ≡ o → Among y (on_page_of f stamp page bytes o ps).view → Among y ps ⊎ (pull_key y ≡ file_key about)
  page_whole_of y None e = λ a. inl a
  page_whole_of y (Some q) e = by_test (is_awaited q stamp page bytes)
    where
      over : (y ≡ record q { content = q.content ++ bytes }) ⊎ Among y ps → Among y ps ⊎ (pull_key y ≡ file_key about)
      over (inl eq) = inr (ap pull_key eq ∙ (row_key pull_key (file_key about) ps q e).1)
      over (inr b) = inl b

      by_test : (b : Bool) → Among y (elim b as (λ (z : Bool). Outcome (List Pull)) [ true ↦ goes_on f (record q { content = q.content ++ bytes }) ps | false ↦ quiet ps ]).view → Among y ps ⊎ (pull_key y ≡ file_key about)
      by_test true a = over (among_row pull_key (record q { content = q.content ++ bytes }) y ps a)
      by_test false a = inl a

  pub page_whole : (y : Pull) → Among y (on_page_of f stamp page bytes (pull_of ps about) ps).view → Among y ps ⊎ (pull_key y ≡ file_key about)
  page_whole y = page_whole_of y (pull_of ps about) refl
