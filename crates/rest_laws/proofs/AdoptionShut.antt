-- Where a pull is ready, no instance of its file is open at this site whose version the pulled one is above.
use Rattle.std.proofs.Common.{◌≡◌, ℕ, Bool, true, false, not, cond, ◌&&◌, ◌||◌, List, [], ◌∷◌, length, Option, Some, refl, sym, ap, ◌∙◌, subst, inl, inr}
use Rattle.std.specs.List.{AllByRecursion, find}
use Rattle.role_steps.proofs.of_plain_facts.Tests.{and_second, not_true, or_second, true_false}
use Rattle.locus_ids.specs.declared.config.Config.{Config}
use Rattle.locus_ids.specs.declared.ids.FileId.{FileId}
use Rattle.locus_ids.specs.declared.ids.Mode.{Mode}
use Rattle.locus_ids.specs.declared.ids.Mode.TheVariants as mode
use Rattle.locus_ids.specs.declared.ids.Stamp.{Stamp}
use Rattle.commit_graph.specs.declared.history.Version.{Version}
use Rattle.commit_graph.specs.Versions.{is_ancestor, is_in, is_proper_ancestor, same_stamp}
use Rattle.commit_graph.proofs.Names.{same_stamp_refl}
use Rattle.trace_book.specs.Same.{same_serial}
use Rattle.trace_book.specs.declared.call.Call.{Call}
use Rattle.trace_book.specs.declared.call.Call.TheVariants as call
use Rattle.role_steps.specs.Adoption.{has_mend, has_room, is_ready, mends_file}
use Rattle.role_steps.specs.Pulling.{is_complete}
use Rattle.role_steps.specs.Storage.{has_open}
use Rattle.role_steps.specs.Views.{Frame, SiteView}
use Rattle.role_steps.specs.declared.pulls.Pull.{Pull}
use Rattle.role_steps.specs.declared.users.WaitingCall.{WaitingCall}
use Rattle.the_run.specs.Kept.{Among}
use Rattle.the_run.specs.Worlds.{Line}
use Rattle.tree_model.specs.declared.accepted.Waiting.{Waiting}
use Rattle.tree_model.specs.declared.instance.Instance.{Instance}
use Rattle.tree_model.specs.Epochs.{epoch_of}
use Rattle.tree_model.specs.Histories.{held, history}
use Rattle.tree_model.specs.State.{TreeState, has_stamp, instance_in, is_named, kept_of}
use Rattle.tree_model.specs.Tree.{kept_in, tree_of}
use Rattle.tree_model.specs.Working.{merges}
use Rattle.lawful_trace.specs.TreeRows.{is_above}
use Rattle.tree_laws.specs.Instances.{held_in, instance_now}
use Rattle.tree_laws.specs.Past.{WasGranted}
use Rattle.tree_laws.specs.Printed.{entries}
use Rattle.tree_laws.specs.Stores.{PullFact}
use Rattle.tree_laws.proofs.Names.{same_serial_own}
use Rattle.tree_laws.proofs.Rows.{followed_rows}
use Rattle.store_laws.specs.Holdings.Held.{IsBelowKept, StandsOnHeld}
use Rattle.store_laws.proofs.Holdings.Ancestors.{ancestor_through, ancestors_one}
use Rattle.store_laws.proofs.Holdings.Below.{commits_new}
use Rattle.store_laws.proofs.Holdings.Distinct.{NamesApart, open_now, rows_names_apart}
use Rattle.store_laws.proofs.Holdings.Holding.{below_kept, stands_on_held}
use Rattle.store_laws.proofs.Holdings.Made.{CommitsAreNew, held_stand, rows_made}
use Rattle.store_laws.proofs.Holdings.Released.{released_shut}
use Rattle.store_laws.proofs.Holdings.Rising.{known_stands, member_stands}
use Rattle.store_laws.proofs.Holdings.RoomOpenGranted.{GrantedSo, open_granted}
use Rattle.store_laws.proofs.Holdings.OneVersionAbove.{BelowLast, IsAbove, open_above}
use Rattle.store_laws.proofs.Commits.{file_own}
use Rattle.store_laws.specs.OneTree.Places.{InsideFact}
use Rattle.store_laws.specs.OneTree.Rest.{Past}
use Rattle.store_laws.proofs.OneTree.Staying.{rest_below}
use Rattle.rest_laws.proofs.StoreStepResting.{store_rests}
use Rattle.rest_laws.specs.AdoptionMending.{MendWaits}
use Rattle.rest_laws.proofs.MendStepRows.{HasRow, any_among, has_row}
use Rattle.rest_laws.proofs.AdoptionMending.{mend_waits}
use Rattle.rest_laws.proofs.AdoptionResolving.{open_several}

-- ---- lists ----

pub all_among : {X : Type 0} (P : X → Type 0) (x : X) (xs : List X) → AllByRecursion P xs → Among x xs → P x
all_among P x [] all m = absurd m
all_among P x (y ∷ ys) all (inl e) = subst P (sym e) all.0
all_among P x (y ∷ ys) all (inr m) = all_among P x ys all.1 m

-- each is found by its name
named_found : (x : Instance) (xs : List Instance) → NamesApart xs → Among x xs → find (is_named x.grant.inst) xs ≡ Some x
named_found x [] apart m = absurd m
named_found x (y ∷ ys) apart (inl e) = subst (λ (z : Instance). find (is_named x.grant.inst) (z ∷ ys) ≡ Some x) e (ap (λ (b : Bool). cond b (Some x) (find (is_named x.grant.inst) ys)) (same_serial_own x.grant.inst))
named_found x (y ∷ ys) apart (inr m) = ap (λ (b : Bool). cond b (Some y) (find (is_named x.grant.inst) ys)) (all_among (λ (z : Instance). same_serial y.grant.inst z.grant.inst ≡ false) x ys apart.0 m) ∙ named_found x ys apart.1 m

-- ---- an instance that is open at the site ----

module _ (c : Config) (trace : List Line) (past : Past c trace) (f : Frame) (v : SiteView) (inside : InsideFact c f trace v) (p : Pull) (k : PullFact c trace f.epoch f.me p) (ready : is_ready v p ≡ true) where
  abbrev h : List Version
  h = history c (entries trace)

  abbrev tree : TreeState
  tree = tree_of c f.epoch p.file.group (entries trace)

  new : CommitsAreNew c (entries trace)
  new = commits_new c trace past.followed (rest_below c trace past.rest).once

  -- no mend of the file waits here
  no_mend : has_mend v.users p.file ≡ false
  no_mend = over (has_mend v.users p.file) (and_second (has_room v.store p) (not (has_open v.store p.file || has_mend v.users p.file)) (and_second (is_complete p) _ ready))
    where
      over : (b : Bool) → not (has_open v.store p.file || b) ≡ true → b ≡ false
      over true e = absurd (true_false (sym (or_second (has_open v.store p.file) true refl) ∙ not_true (has_open v.store p.file || true) e))
      over false e = refl

  module _ (x : Instance) (m : Among x tree.instances) (here : x.grant.ss ≡ f.me) (mine : x.grant.file ≡ p.file) (above : is_above h p.file (held c (entries trace) f.me p.file) p.stamp ≡ true) where
    found : instance_in tree x.grant.inst ≡ Some x
    found = named_found x tree.instances (rows_names_apart c (entries trace) (followed_rows c trace past.followed) f.epoch p.file.group) m

    now : instance_now c trace f.epoch x.grant.inst ≡ Some x
    now = open_now c trace past.followed f.epoch p.file.group x.grant.inst x found

    stands : StandsOnHeld c (entries trace) f.epoch x
    stands = stands_on_held c trace past.followed f.epoch x.grant.inst x now

    held_last : held c (entries trace) f.me p.file ≡ x.work.last
    held_last = sym ((store_rests c trace past).inside f.epoch f.me p.file inside.frame.inside) ∙ (ap (λ (s : ℕ). held_in c (entries trace) f.epoch s p.file) (sym here) ∙ (ap (held_in c (entries trace) f.epoch x.grant.ss) (sym mine) ∙ sym stands.last_is))

    -- a kept version above the pulled one isn't below what the site has
    not_below : (top : IsBelowKept c (entries trace) f.epoch p.file p.stamp) → BelowLast h x.grant.file x.work.last top.top → ⊥
    not_below top b = true_false (sym (subst (λ (y : Stamp). same_stamp b.top y ≡ true) one (same_stamp_refl b.top)) ∙ apart (same_stamp b.top p.stamp) (is_ancestor h p.file b.top p.stamp) proper)
      where
        has : held_in c (entries trace) f.epoch f.me p.file ≡ Some b.top
        has = (store_rests c trace past).inside f.epoch f.me p.file inside.frame.inside ∙ (held_last ∙ b.last_is)

        there : is_in h p.file b.top ≡ true
        there = held_stand c (entries trace) (followed_rows c trace past.followed) f.epoch p.file f.me b.top has

        proper : is_proper_ancestor h p.file b.top p.stamp ≡ true
        proper = subst (λ (o : Option Stamp). is_above h p.file o p.stamp ≡ true) (held_last ∙ b.last_is) above

        apart : (a d : Bool) → not a && d ≡ true → a ≡ false
        apart true d e = absurd (true_false (sym e))
        apart false d e = refl

        goes : (a d : Bool) → not a && d ≡ true → d ≡ true
        goes true d e = absurd (true_false (sym e))
        goes false d e = e

        upward : is_ancestor h p.file p.stamp b.top ≡ true
        upward = ancestor_through h (rows_made c (entries trace) (followed_rows c trace past.followed) new) p.file p.stamp top.top b.top there top.above (subst (λ (y : FileId). is_ancestor h y top.top b.top ≡ true) mine b.below)

        one : b.top ≡ p.stamp
        one = ancestors_one h (rows_made c (entries trace) (followed_rows c trace past.followed) new) p.file b.top p.stamp (known_stands c (entries trace) (followed_rows c trace past.followed) f.epoch p.file p.stamp k.known) (goes (same_stamp b.top p.stamp) (is_ancestor h p.file b.top p.stamp) proper) upward

    so : GrantedSo trace f.epoch x.grant.inst x.grant
    so = open_granted c trace past.followed f.epoch p.file.group x.grant.inst x found

    -- a mend of the file waits here
    mend_none : x.grant.mode ≡ mode.Mend → ⊥
    mend_none is = of (mend_waits c trace past.followed f.epoch x.grant.inst x now is (ap (epoch_of (entries trace)) here ∙ inside.frame.inside))
      where
        of : MendWaits trace x → ⊥
        of w = true_false (sym (any_among (λ (z : WaitingCall). mends_file p.file z.words) v.users.waiting its.row its.among mends) ∙ no_mend)
          where
            its : HasRow f v.users w.caller
            its = has_row c trace f v.users past.followed inside.users.inside.inside w.caller w.waits (w.site_is ∙ here)

            words_are : its.row.words ≡ call.Mend p.file
            words_are = sym (ap (λ (z : Waiting). z.words) its.same) ∙ (w.words_are ∙ ap call.Mend mine)

            mends : mends_file p.file its.row.words ≡ true
            mends = subst (λ (z : Call). mends_file p.file z ≡ true) (sym words_are) (file_own p.file)

    merging : (m : Mode) → x.grant.mode ≡ m → merges m ≡ true → ⊥
    merging mode.Resolve is e = open_several c trace past.rest.packs past.followed new f.epoch so.call so.request x.grant.inst x.grant.file so.stamp x.grant.ss
        (subst (λ (o : Mode). WasGranted trace f.epoch so.call so.request x.grant.inst o x.grant.file so.stamp x.grant.ss) is so.was) (λ r. released_shut c trace past.followed f.epoch x.grant.inst x r now) (ap (λ (y : FileId). length (kept_in c (entries trace) f.epoch y)) mine ∙ k.single)
    merging mode.Mend is e = mend_none is
    merging mode.Read is e = true_false (sym e)
    merging mode.Write is e = true_false (sym e)
    merging mode.Make is e = true_false (sym e)

    pub shut_here : ⊥
    shut_here = over (all_among (IsAbove h tree) x tree.instances (open_above c trace past.rest.packs past.followed new f.epoch p.file.group) m)
      where
        top : IsBelowKept c (entries trace) f.epoch p.file p.stamp
        top = below_kept c (entries trace) (followed_rows c trace past.followed) new f.epoch p.file p.stamp k.known

        over : IsAbove h tree x → ⊥
        over (inl e) = merging x.grant.mode refl e.0
        over (inr all) = not_below top (member_stands (BelowLast h x.grant.file x.work.last) (kept_of h tree x.grant.file) top.top
            (subst (λ (y : FileId). has_stamp (kept_of h tree y) top.top ≡ true) (sym mine) top.is_kept) all)
