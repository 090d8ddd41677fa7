-- Operations: what one gives at the storage site is what it gives in the tree; and one that doesn't count changes no page.
use Rattle.std.proofs.Common.{◌≡◌, ℕ, suc, ◌+◌, ◌<◌, ◌==◌, Bool, true, false, not, cond, ◌&&◌, ◌||◌, filter, List, [], ◌∷◌, length, map, Option, Some, None, refl, sym, ◌∙◌, ap, subst, arith}
use Rattle.std.specs.Prelude.{nat_lt, nat_le}
use Rattle.std.specs.Str.{bytes_eq}
use Rattle.std.proofs.lemmas.Bool.Decides.{nat_tests}
use Rattle.std.proofs.lemmas.Slice.Eq.{bytes_eq-Decides}
use Rattle.locus_ids.specs.declared.ids.FileId.{FileId}
use Rattle.locus_ids.specs.declared.ids.Kind.{Kind}
use Rattle.locus_ids.specs.declared.ids.Kind.TheVariants as kind
use Rattle.locus_ids.specs.declared.ids.Mode.{Mode}
use Rattle.locus_ids.specs.declared.ids.Stamp.{Stamp}
use Rattle.std.specs.Option.{is_none}
use Rattle.role_steps.proofs.of_plain_facts.Numbers.{equal_self}
use Rattle.role_steps.proofs.of_plain_facts.Options.{none_some, some_same}
use Rattle.role_steps.proofs.of_plain_facts.Tests.{and_true, true_false}
use Rattle.locus_ids.specs.declared.refusal.Refusal.{Refusal}
use Rattle.locus_ids.specs.declared.refusal.Refusal.TheVariants as refusal
use Rattle.locus_ids.specs.Sizes.{directory_bytes_max, file_bytes_max}
use Rattle.commit_graph.specs.Versions.{content_of, same_stamp}
use Rattle.commit_graph.specs.declared.history.Version.{Version}
use Rattle.trace_book.specs.declared.operation.Op.{Op}
use Rattle.trace_book.specs.declared.operation.Op.TheVariants as op
use Rattle.trace_book.specs.declared.operation.Outcome.{Outcome}
use Rattle.trace_book.specs.declared.operation.Outcome.TheVariants as outcome
use Rattle.dir_format.specs.Contents.{entries_of, is_dir}
use Rattle.dir_format.specs.Grammar.{dir_bytes}
use Rattle.dir_format.specs.Effects.{DirEffect, dir_effect}
use Rattle.dir_format.specs.declared.entry.Entry.{Entry}
use Rattle.file_content.specs.Pages.{is_replaced, page_of, pages_from, pages_of, pages_replaced, pages_within, with_pages, pages_needed}
use Rattle.file_effects.specs.Effects.{As, Deed, Effect, Mends, Removes, cuts, directory_left, effect, in_directory, is_refusal, is_worded, mends, on_directory, puts, tells, writes}
use Rattle.file_effects.specs.Works.{aborted, begins_owing, carried_out, counted, operated, result_in}
use Rattle.file_effects.specs.declared.work.Work.{Work}
use Rattle.role_steps.specs.OperationEffects.{Mending, has_several, joined_contents}
use Rattle.tree_model.specs.declared.instance.Instance.{Instance}
use Rattle.tree_model.specs.Mending.{join_of_kept, joined_all, joined_content, kept_vectors}
use Rattle.tree_model.specs.Same.{same_kind, same_outcome, same_refusal}
use Rattle.tree_model.specs.State.{TreeState, kept_of}
use Rattle.tree_model.specs.Working.{are_several, effect_on, free_pages, in_room, operated_by, result_on, work_after}
use Rattle.tree_model.specs.of_dir_reconcile.declared.kept.KeptVector.{KeptVector}
use Rattle.tree_model.specs.of_dir_reconcile.Joins.{joined_dirs}
use Rattle.tree_model.specs.of_dir_reconcile.Rescues.{rescued}
use Rattle.tree_laws.proofs.Names.{same_epoch_own}

-- ---- outcomes are the same as themselves ----

bytes_own : (xs : List ℕ) → bytes_eq xs xs ≡ true
bytes_own xs = grind (arith, bytes_eq-Decides xs xs)

stamp_own : (s : Stamp) → same_stamp s s ≡ true
stamp_own s = grind (arith, nat_tests)

refusal_own : (r : Refusal) → same_refusal r r ≡ true
refusal_own (refusal.Busy s p) = and_true (s == s) (p == p) (equal_self s) (equal_self p)
refusal_own (refusal.Absent name) = bytes_own name
refusal_own (refusal.NotDir name) = bytes_own name
refusal_own refusal.IsDir = refl
refusal_own (refusal.Exists ino) = equal_self ino
refusal_own (refusal.NotEmpty name) = bytes_own name
refusal_own (refusal.Conflict a b) = and_true (same_stamp a a) (same_stamp b b) (stamp_own a) (stamp_own b)
refusal_own (refusal.Ambiguous a b) = and_true (a == a) (b == b) (equal_self a) (equal_self b)
refusal_own refusal.NoStorage = refl
refusal_own refusal.NoPartition = refl
refusal_own (refusal.Changed e) = same_epoch_own e
refusal_own refusal.BadDescriptor = refl
refusal_own (refusal.Stale e) = same_epoch_own e
refusal_own refusal.TooLong = refl
refusal_own (refusal.NoSpace a b) = and_true (a == a) (b == b) (equal_self a) (equal_self b)
refusal_own refusal.NoInode = refl
refusal_own refusal.BadName = refl
refusal_own refusal.ReadOnly = refl
refusal_own refusal.NoDescriptor = refl
refusal_own refusal.Spent = refl
refusal_own refusal.NoConflict = refl

kind_own : (k : Kind) → same_kind k k ≡ true
kind_own kind.File = refl
kind_own kind.Dir = refl

pub outcome_own : (r : Outcome) → same_outcome r r ≡ true
outcome_own outcome.Done = refl
outcome_own (outcome.Found ino k) = and_true (ino == ino) (same_kind k k) (equal_self ino) (kind_own k)
outcome_own (outcome.Data bytes) = bytes_own bytes
outcome_own (outcome.Committed s) = stamp_own s
outcome_own (outcome.No why) = refusal_own why

-- ---- what doesn't count changes no page ----

-- the effect counts, or changes no page
abbrev IsIdle : Effect → Type 0
IsIdle e = e.counts ≡ false → e.pages ≡ []

none_replaced : (content : List ℕ) (ps : List ℕ) → filter (is_replaced content content) ps ≡ []
none_replaced content [] = refl
none_replaced content (p ∷ ps) = ap (λ (b : Bool). cond (not b) (p ∷ filter (is_replaced content content) ps) (filter (is_replaced content content) ps)) (bytes_own (page_of content p)) ∙ none_replaced content ps

same_replaced : (a b : List ℕ) → a ≡ b → pages_replaced a b ≡ []
same_replaced a b e = ap (pages_replaced a) (sym e) ∙ none_replaced a (pages_from 0 (pages_of (length a)))

idle_directory : (content : List ℕ) (o : Option DirEffect) (e : Effect) → in_directory content o ≡ Some e → IsIdle e
idle_directory content None e k = absurd (none_some e k)
idle_directory content (Some d) e k = over (is_dir d.entries) k
  where
    idle : IsIdle (on_directory content d)
    idle off = same_replaced content (directory_left content d) (sym (ap (λ (b : Bool). cond b (dir_bytes d.entries) content) off))

    over : (b : Bool) → cond b (Some (on_directory content d)) None ≡ Some e → IsIdle e
    over true k = subst IsIdle (some_same (on_directory content d) e k) idle
    over false k = absurd (none_some e k)

idle_puts : (old new : List ℕ) (counts : Bool) → (counts ≡ false → new ≡ old) → IsIdle (puts old new counts)
idle_puts old new counts same = over (nat_lt directory_bytes_max (length new))
  where
    over : (b : Bool) → IsIdle (cond b (tells old (outcome.No refusal.TooLong)) (record { result = outcome.Done; content = new; pages = pages_replaced old new; counts = counts; spent = false }))
    over true = λ off. refl
    over false = λ off. same_replaced old new (sym (same off))

idle_mends : (content : List ℕ) (several : Bool) (joined : List ℕ) → IsIdle (mends content several joined)
idle_mends content several joined = idle_puts content joined (several || not (bytes_eq joined content)) (over several (bytes_eq joined content) refl)
  where
    over : (a b : Bool) → bytes_eq joined content ≡ b → a || not b ≡ false → joined ≡ content
    over true b e k = absurd (true_false k)
    over false true e k = (bytes_eq-Decides joined content).0 e
    over false false e k = absurd (true_false k)

told_idle : (content : List ℕ) (r : Outcome) (e : Effect) → ◌≡◌ {A = Option Effect} (Some (tells content r)) (Some e) → IsIdle e
told_idle content r e k = subst IsIdle (some_same (tells content r) e k) (λ off. refl)

worded_idle : (o : Op) (content : List ℕ) (e : Effect) → cond (is_worded o) (in_directory content (dir_effect o [] (entries_of content))) None ≡ Some e → IsIdle e
worded_idle o content e k = over (is_worded o) k
  where
    over : (b : Bool) → cond b (in_directory content (dir_effect o [] (entries_of content))) None ≡ Some e → IsIdle e
    over true k = idle_directory content (dir_effect o [] (entries_of content)) e k
    over false k = absurd (none_some e k)

-- an effect that doesn't count changes no page
idle_effect : (d : Deed) (content : List ℕ) (e : Effect) → effect d content ≡ Some e → IsIdle e
idle_effect (As (op.Read at len)) content e k = told_idle content _ e k
idle_effect (As (op.Write at bytes)) content e k = over (nat_le (at + length bytes) file_bytes_max) k
  where
    over : (b : Bool) → cond b (Some (writes content at bytes)) None ≡ Some e → IsIdle e
    over true k = subst IsIdle (some_same (writes content at bytes) e k) (λ off. absurd (true_false off))
    over false k = absurd (none_some e k)
idle_effect (As (op.Cut len)) content e k = subst IsIdle (some_same (cuts content len) e k) (λ off. refl)
idle_effect (As (op.Remove name ino)) content e k = absurd (none_some e k)
idle_effect (As op.Mend) content e k = absurd (none_some e k)
idle_effect (As op.Commit) content e k = absurd (none_some e k)
idle_effect (As op.Abort) content e k = absurd (none_some e k)
idle_effect (As (op.Probe name)) content e k = worded_idle (op.Probe name) content e k
idle_effect (As (op.Find name)) content e k = worded_idle (op.Find name) content e k
idle_effect (As (op.Insert name ino kd)) content e k = worded_idle (op.Insert name ino kd) content e k
idle_effect (As (op.Rename component name)) content e k = worded_idle (op.Rename component name) content e k
idle_effect (As op.Empty) content e k = worded_idle op.Empty content e k
idle_effect (Removes name ino seen) content e k = idle_directory content (dir_effect (op.Remove name ino) seen (entries_of content)) e k
idle_effect (Mends several joined) content e k = subst IsIdle (some_same (mends content several joined) e k) (idle_mends content several joined)

-- ---- the work after an effect ----

none_within : (size : ℕ) (changed : List ℕ) → changed ≡ [] → pages_within size changed ≡ []
none_within size changed e = ap (pages_within size) e

pub clean_after : (d : Deed) (content : List ℕ) (e : Effect) (r : Outcome) (w : Work) → effect d content ≡ Some e → (w.owes ≡ false → w.changed ≡ []) → (operated e r w).owes ≡ false → (operated e r w).changed ≡ []
clean_after d content e r w is clean = over (is_refusal r)
  where
    left : (a b : Bool) → a || b ≡ false → a ≡ false
    left true b k = k
    left false b k = refl

    right : (a b : Bool) → a || b ≡ false → b ≡ false
    right true b k = absurd (true_false k)
    right false b k = k

    over : (b : Bool) → (cond b (counted w) (carried_out e w)).owes ≡ false → (cond b (counted w) (carried_out e w)).changed ≡ []
    over true k = clean k
    over false k = ap (λ (ps : List ℕ). with_pages ps (pages_within (length e.content) w.changed)) (idle_effect d content e is (right w.owes e.counts k)) ∙ none_within (length e.content) w.changed (clean (left w.owes e.counts k))

-- how the work of an instance in this mode goes on, but for its content and its pages
pub record GoesOn (m : Mode) (w u : Work) : Type 0 where
  pub ops_is : u.ops ≡ w.ops + 1
  pub last_is : u.last ≡ w.last
  pub committed_is : u.committed ≡ w.committed
  pub fresh_is : u.fresh ≡ false
  pub owes_is : begins_owing m ≡ true → w.committed ≡ None → w.owes ≡ true → u.owes ≡ true

pub operated_on : (m : Mode) (e : Effect) (r : Outcome) (w : Work) → GoesOn m w (operated e r w)
operated_on m e r w = over (is_refusal r)
  where
    owing : w.owes ≡ true → w.owes || e.counts ≡ true
    owing k = ap (λ (b : Bool). b || e.counts) k

    over : (b : Bool) → GoesOn m w (cond b (counted w) (carried_out e w))
    over true = record { ops_is = refl; last_is = refl; committed_is = refl; fresh_is = refl; owes_is = λ a c k. k }
    over false = record { ops_is = refl; last_is = refl; committed_is = refl; fresh_is = refl; owes_is = λ a c k. owing k }

pub counted_on : (m : Mode) (w : Work) → GoesOn m w (counted w)
counted_on m w = record { ops_is = refl; last_is = refl; committed_is = refl; fresh_is = refl; owes_is = λ a c k. k }

pub aborted_on : (m : Mode) (content : List ℕ) (w : Work) → GoesOn m w (aborted m content w)
aborted_on m content w = record { ops_is = refl; last_is = refl; committed_is = refl; fresh_is = refl; owes_is = λ a c k. and_true (begins_owing m) (is_none w.committed) a (ap is_none c) }

-- ---- the tree's effect ----

-- an operation on the content
abbrev pub OnContent : Op → Type 0
OnContent op.Commit = ⊥
OnContent op.Abort = ⊥
OnContent _ = Unit {0}

-- what an operation on the content gives in the tree
pub result_in_tree : (h : List Version) (t : TreeState) (o : Op) (x : Instance) (e : Effect) → OnContent o → effect_on h t o x ≡ Some e → result_on h t o x ≡ Some (result_in (free_pages h t x.grant.ss) x.work.changed e)
result_in_tree h t op.Commit x e on k = absurd on
result_in_tree h t op.Abort x e on k = absurd on
result_in_tree h t (op.Probe name) x e on k = ap (in_room (free_pages h t x.grant.ss) x.work.changed) k
result_in_tree h t (op.Find name) x e on k = ap (in_room (free_pages h t x.grant.ss) x.work.changed) k
result_in_tree h t (op.Insert name ino kd) x e on k = ap (in_room (free_pages h t x.grant.ss) x.work.changed) k
result_in_tree h t (op.Remove name ino) x e on k = ap (in_room (free_pages h t x.grant.ss) x.work.changed) k
result_in_tree h t (op.Rename component name) x e on k = ap (in_room (free_pages h t x.grant.ss) x.work.changed) k
result_in_tree h t op.Empty x e on k = ap (in_room (free_pages h t x.grant.ss) x.work.changed) k
result_in_tree h t (op.Read at len) x e on k = ap (in_room (free_pages h t x.grant.ss) x.work.changed) k
result_in_tree h t (op.Write at bytes) x e on k = ap (in_room (free_pages h t x.grant.ss) x.work.changed) k
result_in_tree h t (op.Cut len) x e on k = ap (in_room (free_pages h t x.grant.ss) x.work.changed) k
result_in_tree h t op.Mend x e on k = ap (in_room (free_pages h t x.grant.ss) x.work.changed) k

pub work_in_tree : (h : List Version) (t : TreeState) (o : Op) (r : Outcome) (x : Instance) (e : Effect) → OnContent o → effect_on h t o x ≡ Some e → work_after h t o r x ≡ operated e r x.work
work_in_tree h t op.Commit r x e on k = absurd on
work_in_tree h t op.Abort r x e on k = absurd on
work_in_tree h t (op.Probe name) r x e on k = ap (λ (y : Option Effect). operated_by r y x.work) k
work_in_tree h t (op.Find name) r x e on k = ap (λ (y : Option Effect). operated_by r y x.work) k
work_in_tree h t (op.Insert name ino kd) r x e on k = ap (λ (y : Option Effect). operated_by r y x.work) k
work_in_tree h t (op.Remove name ino) r x e on k = ap (λ (y : Option Effect). operated_by r y x.work) k
work_in_tree h t (op.Rename component name) r x e on k = ap (λ (y : Option Effect). operated_by r y x.work) k
work_in_tree h t op.Empty r x e on k = ap (λ (y : Option Effect). operated_by r y x.work) k
work_in_tree h t (op.Read at len) r x e on k = ap (λ (y : Option Effect). operated_by r y x.work) k
work_in_tree h t (op.Write at bytes) r x e on k = ap (λ (y : Option Effect). operated_by r y x.work) k
work_in_tree h t (op.Cut len) r x e on k = ap (λ (y : Option Effect). operated_by r y x.work) k
work_in_tree h t op.Mend r x e on k = ap (λ (y : Option Effect). operated_by r y x.work) k

-- ---- a mend ----

pub contents_joined : (h : List Version) (f : FileId) (ks : List Stamp) → joined_contents (map (content_of h f) ks) ≡ joined_all (map (λ s. entries_of (content_of h f s)) ks)
contents_joined h f [] = refl
contents_joined h f (k ∷ ks) = ap (joined_dirs (entries_of (content_of h f k))) (contents_joined h f ks)

pub several_same : (h : List Version) (f : FileId) (ks : List Stamp) → has_several (map (content_of h f) ks) ≡ are_several ks
several_same h f [] = refl
several_same h f (a ∷ []) = refl
several_same h f (a ∷ b ∷ ks) = more (length ks)
  where
    more : (n : ℕ) → true ≡ nat_lt 1 (suc (suc n))
    more n = sym (test (suc (suc n)) (above n))
      where
        above : (n : ℕ) → 1 < suc (suc n)
        above n = omega arith

        test : (a : ℕ) → 1 < a → nat_lt 1 a ≡ true
        test a lt = grind (arith, nat_tests)

-- a mend's own effect has no spent count
pub mend_unspent : (content : List ℕ) (several : Bool) (joined : List ℕ) → (mends content several joined).spent ≡ false
mend_unspent content several joined = over (nat_lt directory_bytes_max (length joined))
  where
    over : (b : Bool) → (cond b (tells content (outcome.No refusal.TooLong)) (record { result = outcome.Done; content = joined; pages = pages_replaced content joined; counts = several || not (bytes_eq joined content); spent = false })).spent ≡ false
    over true = refl
    over false = refl

-- an effect whose count is at its end is refused for it, or gives what it gives else
pub spent_same : (free : ℕ) (changed : List ℕ) (e : Effect) (b : Bool) → e.spent ≡ false → (result_in free changed (record e { spent = b }) ≡ outcome.No refusal.Spent → ⊥) → result_in free changed (record e { spent = b }) ≡ result_in free changed e
spent_same free changed e b none low = over (is_refusal e.result) (nat_lt free (pages_needed e.pages changed)) b low
  where
    over : (refused full b : Bool) → (cond refused e.result (cond full (outcome.No (refusal.NoSpace (pages_needed e.pages changed) free)) (cond b (outcome.No refusal.Spent) e.result)) ≡ outcome.No refusal.Spent → ⊥) →
        cond refused e.result (cond full (outcome.No (refusal.NoSpace (pages_needed e.pages changed) free)) (cond b (outcome.No refusal.Spent) e.result)) ≡ cond refused e.result (cond full (outcome.No (refusal.NoSpace (pages_needed e.pages changed) free)) (cond e.spent (outcome.No refusal.Spent) e.result))
    over true full b low = refl
    over false true b low = refl
    over false false true low = absurd (low refl)
    over false false false low = ap (λ (y : Bool). cond y (outcome.No refusal.Spent) e.result) (sym none)

-- a mend here has the effect of the tree's, where it works on what the tree has kept
pub mend_same : (h : List Version) (t : TreeState) (x : Instance) (m : Mending) (content : List ℕ) → m.contents ≡ map (content_of h x.grant.file) (kept_of h t x.grant.file) → m.kept ≡ kept_vectors h t →
    Some (mends content (has_several m.contents) (dir_bytes (rescued (joined_contents m.contents) m.kept))) ≡ effect (Mends (are_several (kept_of h t x.grant.file)) (joined_content h t x.grant.file)) content
mend_same h t x m content contents kept = ap (λ (b : Bool). Some (mends content b (dir_bytes (rescued (joined_contents m.contents) m.kept)))) (ap has_several contents ∙ several_same h x.grant.file (kept_of h t x.grant.file))
    ∙ (ap (λ (ds : List Entry). Some (mends content (are_several (kept_of h t x.grant.file)) (dir_bytes (rescued ds m.kept)))) (ap joined_contents contents ∙ contents_joined h x.grant.file (kept_of h t x.grant.file))
    ∙ ap (λ (vs : List KeptVector). Some (mends content (are_several (kept_of h t x.grant.file)) (dir_bytes (rescued (join_of_kept h t x.grant.file) vs)))) kept)
