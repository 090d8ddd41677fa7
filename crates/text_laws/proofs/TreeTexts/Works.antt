-- What operations give on open instances of a past of texts, and the contents that they leave.
use Rattle.std.proofs.Common.{◌≡◌, ◌≤◌, ℕ, ◌+◌, ◌-◌, nat_lt, Bool, true, false, cond, List, [], ◌∷◌, map, Option, Some, None, refl, sym, subst, arith}
use Rattle.std.proofs.lemmas.Bool.Decides.{nat_tests}
use Rattle.std.specs.List.{find, list_all}
use Rattle.std.specs.Ordering.{nat_cmp}
use Rattle.std.specs.declared.cmp.Ordering.{Ordering}
use Rattle.std.specs.declared.cmp.Ordering.TheVariants.{Less, Equal, Greater}
use Rattle.locus_ids.specs.Sizes.{file_bytes_max, pack_pages}
use Rattle.locus_ids.specs.declared.ids.FileId.{FileId}
use Rattle.locus_ids.specs.declared.ids.Stamp.{Stamp}
use Rattle.locus_ids.specs.declared.refusal.Refusal.{Refusal}
use Rattle.locus_ids.specs.declared.refusal.Refusal.TheVariants as refusal
use Rattle.commit_graph.specs.Versions.{content_of}
use Rattle.trace_book.specs.declared.operation.Op.{Op}
use Rattle.trace_book.specs.declared.operation.Op.TheVariants as op
use Rattle.trace_book.specs.declared.operation.Outcome.{Outcome}
use Rattle.trace_book.specs.declared.operation.Outcome.TheVariants as outcome
use Rattle.dir_format.specs.Contents.{entries_of}
use Rattle.dir_format.specs.Entries.{entry_cmp}
use Rattle.dir_format.specs.declared.entry.Entry.{Entry}
use Rattle.dir_reconcile.specs.Joins.{joined_by, joined_dirs, joined_entry, joined_from}
use Rattle.dir_reconcile.specs.Rescues.{entry_after_rescue, is_to_rescue, rescued, revived}
use Rattle.dir_reconcile.specs.declared.kept.KeptVector.{KeptVector}
use Rattle.file_effects.specs.Effects.{Deed, As, Removes, Mends, Effect, effect, is_refusal}
use Rattle.file_effects.specs.Works.{commit_result, operated, result_in}
use Rattle.file_effects.specs.declared.work.Work.{Work}
use Rattle.file_effects.specs.of_file_content.Pages.{pages_needed}
use Rattle.text_laws.specs.CallTexts.Wants.{is_asked_op}
use Rattle.tree_model.specs.Mending.{joined_all}
use Rattle.tree_model.specs.Same.{is_given}
use Rattle.tree_model.specs.Working.{effect_of, in_room, operated_by}
use Rattle.promises.specs.Past.{Past, Epoch, Instance, kept_in}
use Rattle.promises.specs.Tree.{changed_pages, deed_of, effect_on, free_pages, held_pages, is_spent, is_target, join_of_kept, kept_vectors, mended, removes, result_on, work_after}
use Rattle.past_laws.proofs.Alls.{all_first, all_more}
use Rattle.past_laws.proofs.Names.{both, false_true}
use Rattle.record_reading.specs.Ranges as range
use Rattle.text_laws.proofs.TreeTexts.Contents.{are_bytes, dir_are, entries_are, good_names, has_good_name}
use Rattle.text_laws.proofs.TreeTexts.Effects.{DataIs, DeedText, EffectIfAny, EffectText, as_text, data_is, may_give, mends_text, needed_few, removes_text}
use Rattle.text_laws.proofs.TreeTexts.Same.{outcome_same}
use Rattle.text_laws.proofs.TreeTexts.Texts.{InstanceText, PastText, stamped_text}

-- ---- what a mend makes ----

joined_one : (a b : Entry) (o : Ordering) → has_good_name a ≡ true → has_good_name b ≡ true → has_good_name (joined_by o a b) ≡ true
joined_one a b Less h k = k
joined_one a b Equal h k = h
joined_one a b Greater h k = h

-- the join, by how its first two entries stand
abbrev by_order : Entry → Entry → (List Entry → List Entry) → List Entry → Ordering → List Entry
by_order a b others bs Less = a ∷ others (b ∷ bs)
by_order a b others bs Equal = joined_entry a b ∷ others bs
by_order a b others bs Greater = b ∷ joined_from a others bs

abbrev are_named : List Entry → Bool
are_named ds = list_all has_good_name ds

names_from : (a : Entry) (others : List Entry → List Entry) (bs : List Entry) → has_good_name a ≡ true → ((cs : List Entry) → are_named cs ≡ true → are_named (others cs) ≡ true) → are_named bs ≡ true → are_named (joined_from a others bs) ≡ true
names_from a others [] h go k = all_more has_good_name a (others []) h (go [] refl)
names_from a others (b ∷ bs) h go k = let parts = all_first has_good_name b bs k in over parts.0 parts.1 (names_from a others bs h go parts.1) (entry_cmp a b)
  where
    over : has_good_name b ≡ true → are_named bs ≡ true → are_named (joined_from a others bs) ≡ true → (o : Ordering) → are_named (by_order a b others bs o) ≡ true
    over own rest later Less = all_more has_good_name a (others (b ∷ bs)) h (go (b ∷ bs) k)
    over own rest later Equal = all_more has_good_name (joined_entry a b) (others bs) (joined_one a b (nat_cmp a.count b.count) h own) (go bs rest)
    over own rest later Greater = all_more has_good_name b (joined_from a others bs) own later

names_joined : (xs ys : List Entry) → are_named xs ≡ true → are_named ys ≡ true → are_named (joined_dirs xs ys) ≡ true
names_joined [] ys h k = k
names_joined (x ∷ xs) ys h k = let parts = all_first has_good_name x xs h in names_from x (joined_dirs xs) ys parts.0 (λ cs g. names_joined xs cs parts.1 g) k

names_kept : (p : Past) (f : FileId) (ss : List Stamp) → are_named (joined_all (map (λ s. entries_of (content_of p.history f s)) ss)) ≡ true
names_kept p f [] = refl
names_kept p f (s ∷ ss) = names_joined (entries_of (content_of p.history f s)) (joined_all (map (λ z. entries_of (content_of p.history f z)) ss)) (good_names (entries_of (content_of p.history f s)) (entries_are (content_of p.history f s))) (names_kept p f ss)

names_rescued : (ds : List Entry) (vectors : List KeptVector) (xs : List Entry) → are_named xs ≡ true → are_named (map (entry_after_rescue ds vectors) xs) ≡ true
names_rescued ds vectors [] h = refl
names_rescued ds vectors (x ∷ xs) h = let parts = all_first has_good_name x xs h in all_more has_good_name (entry_after_rescue ds vectors x) (map (entry_after_rescue ds vectors) xs) (over (is_to_rescue ds vectors x) parts.0) (names_rescued ds vectors xs parts.1)
  where
    over : (b : Bool) → has_good_name x ≡ true → has_good_name (cond b (revived x) x) ≡ true
    over true k = k
    over false k = k

mended_text : (p : Past) (t : Epoch) (f : FileId) → are_bytes (mended p t f) ≡ true
mended_text p t f = dir_are (rescued (join_of_kept p t f) (kept_vectors p t f.group)) (names_rescued (join_of_kept p t f) (kept_vectors p t f.group) (join_of_kept p t f) (names_kept p f (kept_in p t f)))

-- ---- effects ----

abbrev DeedIfAny : Op → Option Deed → Type 0
DeedIfAny o None = Unit {0}
DeedIfAny o (Some d) = DeedText o d

removes_deed : (name : List ℕ) (ino : ℕ) (p : Past) (y : Option Instance) → DeedIfAny (op.Remove name ino) (removes name ino p y)
removes_deed name ino p None = tt
removes_deed name ino p (Some y) = over y.work.last refl
  where
    over : (s : Option Stamp) → y.work.last ≡ s → DeedIfAny (op.Remove name ino) (removes name ino p (Some y))
    over None e = rw (e, removes) tt
    over (Some s) e = rw (e, removes) refl

deed_text : (p : Past) (t : Epoch) (o : Op) (x : Instance) → is_asked_op o ≡ true → DeedIfAny o (deed_of p t o x)
deed_text p t (op.Remove name ino) x k = removes_deed name ino p (find (is_target x ino) t.opened)
deed_text p t op.Mend x k = (refl, mended_text p t x.grant.file)
deed_text p t _ x k = (refl, k)

of_deed : (content : List ℕ) (o : Op) (d : Option Deed) → DataIs file_bytes_max content → DeedIfAny o d → EffectIfAny o (effect_of d content)
of_deed content o None few h = tt
of_deed content o (Some (As a)) few h = subst (λ b. EffectIfAny o (effect (As b) content)) (sym h.0) (as_text content few o h.1)
of_deed content o (Some (Removes name ino seen)) few h = subst (λ b. EffectIfAny b (effect (Removes name ino seen) content)) (sym h) (removes_text content few name ino seen)
of_deed content o (Some (Mends several joined)) few h = subst (λ b. EffectIfAny b (effect (Mends several joined) content)) (sym h.0) (mends_text content few several joined h.1)

effect_text : (p : Past) (t : Epoch) (o : Op) (x : Instance) → is_asked_op o ≡ true → InstanceText x → EffectIfAny o (effect_on p t o x)
effect_text p t o x k h = of_deed x.work.content o (deed_of p t o x) (data_is file_bytes_max x.work.content h.content) (deed_text p t o x k)

-- ---- results ----

-- any operation may be refused
gives_no : (o : Op) (why : Refusal) → range.is_refusal why ≡ true → may_give o (outcome.No why) ≡ true
gives_no (op.Find component) why h = h
gives_no (op.Read at len) why h = h
gives_no op.Commit why h = h
gives_no _ why h = h

short : (n : ℕ) → n ≤ 65535 → range.is_short n ≡ true
short n le = grind (arith, nat_tests)

room_text : (o : Op) (free : ℕ) (changed : List ℕ) (e : Effect) → free ≤ 65535 → EffectText o e → may_give o (result_in free changed e) ≡ true
room_text o free changed e low h =
    (elim (is_refusal e.result) as (λ a. is_refusal e.result ≡ a → may_give o (result_in free changed e) ≡ true) [
      | true ↦ λ p. rw (p, result_in) h.result
      | false ↦ λ p. (elim (nat_lt free (pages_needed e.pages changed)) as (λ b. nat_lt free (pages_needed e.pages changed) ≡ b → may_give o (result_in free changed e) ≡ true) [
        | true ↦ λ q. rw (p, q, result_in) (gives_no o (refusal.NoSpace (pages_needed e.pages changed) free) (both (range.is_short (pages_needed e.pages changed)) (range.is_short free) (short (pages_needed e.pages changed) (needed_few e.pages changed h.pages)) (short free low)))
        | false ↦ λ q. (elim e.spent as (λ d. e.spent ≡ d → may_give o (result_in free changed e) ≡ true) [
          | true ↦ λ r. rw (p, q, r, result_in) (gives_no o refusal.Spent refl)
          | false ↦ λ r. rw (p, q, r, result_in) h.result
        ]) refl
      ]) refl
    ]) refl

abbrev GivenIfAny : Op → Option Outcome → Type 0
GivenIfAny o None = Unit {0}
GivenIfAny o (Some r) = may_give o r ≡ true

room_if_any : (o : Op) (free : ℕ) (changed : List ℕ) (e : Option Effect) → free ≤ 65535 → EffectIfAny o e → GivenIfAny o (in_room free changed e)
room_if_any o free changed None low h = tt
room_if_any o free changed (Some e) low h = room_text o free changed e low h

free_low : (p : Past) (t : Epoch) (group site : ℕ) → free_pages p t group site ≤ 65535
free_low p t group site = less (held_pages p t group site + changed_pages t group site)
  where
    less : (n : ℕ) → pack_pages - n ≤ 65535
    less n = omega arith

commit_text : (spent : Bool) (w : Work) → range.is_optional_stamp w.last ≡ true → GivenIfAny op.Commit (commit_result spent w)
commit_text spent w h = over w.owes refl spent refl w.last refl h
  where
    over : (a : Bool) → w.owes ≡ a → (b : Bool) → spent ≡ b → (s : Option Stamp) → w.last ≡ s → range.is_optional_stamp s ≡ true → GivenIfAny op.Commit (commit_result spent w)
    over true e true f s g k = rw (e, f, commit_result) refl
    over true e false f s g k = rw (e, f, commit_result) tt
    over false e b f None g k = rw (e, g, commit_result) tt
    over false e b f (Some s) g k = rw (e, g, commit_result) k

result_text : (p : Past) (t : Epoch) (o : Op) (x : Instance) → is_asked_op o ≡ true → InstanceText x → GivenIfAny o (result_on p t o x)
result_text p t op.Commit x k h = commit_text (is_spent p t x) x.work h.last
result_text p t op.Abort x k h = refl
result_text p t o x k h = room_if_any o (free_pages p t x.grant.file.group x.grant.ss) x.work.changed (effect_on p t o x) (free_low p t x.grant.file.group x.grant.ss) (effect_text p t o x k h)

given_text : (o : Op) (given : Option Outcome) (result : Outcome) → GivenIfAny o given → is_given given result ≡ true → may_give o result ≡ true
given_text o None result h k = false_true k
given_text o (Some r) result h k = outcome_same o r result k h

-- what an operation that may be carried out gives
pub gave_text : (p : Past) (t : Epoch) (o : Op) (x : Instance) (result : Outcome) → is_asked_op o ≡ true → InstanceText x → is_given (result_on p t o x) result ≡ true → may_give o result ≡ true
gave_text p t o x result k h given = given_text o (result_on p t o x) result (result_text p t o x k h) given

-- ---- the instance after it ----

record WorkText (w : Work) : Type 0 where
  content : range.is_data file_bytes_max w.content ≡ true
  last : range.is_optional_stamp w.last ≡ true
  committed : range.is_optional_stamp w.committed ≡ true

operated_text : (o : Op) (result : Outcome) (e : Option Effect) (w : Work) → EffectIfAny o e → WorkText w → WorkText (operated_by result e w)
operated_text o result None w h k = record { content = k.content; last = k.last; committed = k.committed }
operated_text o result (Some e) w h k = over (is_refusal result) refl
  where
    over : (b : Bool) → is_refusal result ≡ b → WorkText (operated e result w)
    over true f = rw (f, operated) (record { content = k.content; last = k.last; committed = k.committed })
    over false f = rw (f, operated) (record { content = h.content; last = k.last; committed = k.committed })

after_text : (p : Past) (t : Epoch) (o : Op) (result : Outcome) (x : Instance) → PastText p → is_asked_op o ≡ true → InstanceText x → WorkText (work_after p t o result x)
after_text p t op.Commit result x h k own = record { content = own.content; last = own.last; committed = own.committed }
after_text p t op.Abort result x h k own = record { content = stamped_text p.history x.grant.file x.work.last h.history; last = own.last; committed = own.committed }
after_text p t o result x h k own = operated_text o result (effect_on p t o x) x.work (effect_text p t o x k own) (record { content = own.content; last = own.last; committed = own.committed })

pub acted_text : (p : Past) (t : Epoch) (o : Op) (result : Outcome) (x : Instance) → PastText p → is_asked_op o ≡ true → InstanceText x → InstanceText (record x { work = work_after p t o result x })
acted_text p t o result x h k own = let w : WorkText (work_after p t o result x) = after_text p t o result x h k own in record { inst = own.inst; call = own.call; process = own.process; file = own.file; content = w.content; last = w.last; committed = w.committed }
