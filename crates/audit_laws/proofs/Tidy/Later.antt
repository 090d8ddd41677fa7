-- What an epoch tells of who joined, of what was granted and named, it tells from then on.
use Rattle.std.proofs.Common.{◌≡◌, ℕ, ◌+◌, ◌==◌, ◌&&◌, ◌||◌, not, Bool, true, false, cond, List, [], ◌∷◌, ◌++◌, filter, Some, refl, sym, ap, subst, ◌∙◌}
use Rattle.std.specs.Prelude.{fold}
use Rattle.std.specs.List.{list_any, list_all, AllByRecursion}
use Rattle.locus_ids.specs.declared.config.Config.{Config}
use Rattle.locus_ids.specs.declared.sites.Members.{Members}
use Rattle.locus_ids.specs.declared.ids.EpochId.{EpochId}
use Rattle.locus_ids.specs.declared.ids.FileId.{FileId}
use Rattle.locus_ids.specs.declared.ids.Serial.{Serial}
use Rattle.file_effects.specs.Works.{committed}
use Rattle.trace_book.specs.Same.{same_call, same_epoch, same_serial}
use Rattle.trace_book.specs.declared.descriptor.Descriptor.{Descriptor}
use Rattle.trace_book.specs.declared.record.Record.{Record}
use Rattle.trace_book.specs.declared.record.Record.TheVariants as rec
use Rattle.tree_model.specs.declared.instance.Granted.{Granted}
use Rattle.tree_model.specs.Epochs.{is_in}
use Rattle.tree_model.specs.State.{is_make}
use Rattle.call_rules.specs.Descriptors.{beginning}
use Rattle.promises.specs.Past.{Past, Epoch, CallSoFar, Instance, Left, Make, Copy, Named, site_at, epoch_at, unformed, is_named, is_number, is_writer, table}
use Rattle.promises.specs.After.{after, told_by, change, is_epoch, is_home_of, with_epoch, with_all_known, acted, begun_make, released, uses, begun_call, taken_by, left_unmended, opened_as, process_of, is_ender, named_by, once_named}
use Rattle.promises.specs.Tree.{work_after}
use Rattle.promises.specs.Rows.{may_follow}
use Rattle.plain_facts.proofs.Tests.{and_first, and_second, and_true, or_second}
use Rattle.past_laws.proofs.Names.{false_true, serial_eq}
use Rattle.past_laws.proofs.CallsLists.{each_more, each_of}
use Rattle.past_laws.proofs.TreesLists.{all_filter}
use Rattle.past_laws.proofs.Alls.{all_joined, all_changed}
use Rattle.audit_laws.specs.Tidy.Epochs.{is_grant}
use Rattle.audit_laws.specs.Tidy.Ties.{has_epoch, is_named_there}
use Rattle.audit_laws.specs.Tidy.Tidy.{IsTidy}
use Rattle.audit_laws.proofs.Tidy.Answers.{AnswersOne, answers_one, closed_as}
use Rattle.audit_laws.proofs.Tidy.Epochs.{epochs_are, once_grant, once_is_named}
use Rattle.audit_laws.proofs.Tidy.EpochsNext.{grants_new}

pub record Later (t u : Epoch) : Type 0 where
  pub id : u.id ≡ t.id
  pub joined : (n : ℕ) → is_number t.joined n ≡ true → is_number u.joined n ≡ true
  pub granted : (q : Granted → Bool) → list_any q t.granted ≡ true → list_any q u.granted ≡ true
  pub named : (i : Serial) → list_any (is_grant i) t.granted ≡ true → list_all (is_named_there i) t.opened ≡ true → list_all (is_named_there i) u.opened ≡ true

-- tests of an epoch that stay
abbrev pub IsLasting : (Epoch → Bool) → Type 0
IsLasting q = (t u : Epoch) → Later t u → q t ≡ true → q u ≡ true

abbrev pub EpochsLater : List Epoch → List Epoch → Type 0
EpochsLater old new = (q : Epoch → Bool) → IsLasting q → (e : EpochId) → has_epoch q e old ≡ true → has_epoch q e new ≡ true

pub same_later : (epochs : List Epoch) → EpochsLater epochs epochs
same_later epochs q lasts e h = h

pub changed_later : (epochs : List Epoch) (which : Epoch → Bool) (f : Epoch → Epoch) → AllByRecursion (λ (t : Epoch). which t ≡ true → Later t (f t)) epochs → EpochsLater epochs (change which f epochs)
changed_later [] which f steps q lasts e h = h
changed_later (t ∷ ts) which f steps q lasts e h = go (changed_later ts which f steps.1 q lasts e) (is_epoch e t && q t) refl h
  where
    seen : (b : Bool) → which t ≡ b → (is_epoch e t && q t) ≡ true → (is_epoch e (cond b (f t) t) && q (cond b (f t) t)) ≡ true
    seen true w k = and_true (is_epoch e (f t)) (q (f t)) (ap (λ (d : EpochId). same_epoch d e) (steps.0 w).id ∙ and_first (is_epoch e t) (q t) k) (lasts t (f t) (steps.0 w) (and_second (is_epoch e t) (q t) k))
    seen false w k = k

    first : (a b : Bool) → a ≡ true → (a || b) ≡ true
    first a b k = ap (λ x. x || b) k

    go : (has_epoch q e ts ≡ true → has_epoch q e (change which f ts) ≡ true) → (b : Bool) → (is_epoch e t && q t) ≡ b → (b || has_epoch q e ts) ≡ true → has_epoch q e (change which f (t ∷ ts)) ≡ true
    go later true k j = first (is_epoch e (cond (which t) (f t) t) && q (cond (which t) (f t) t)) (has_epoch q e (change which f ts)) (seen (which t) refl k)
    go later false k j = or_second (is_epoch e (cond (which t) (f t) t) && q (cond (which t) (f t) t)) (has_epoch q e (change which f ts)) (later j)

pub all_later : (epochs : List Epoch) (which : Epoch → Bool) (f : Epoch → Epoch) → ((t : Epoch) → Later t (f t)) → EpochsLater epochs (change which f epochs)
all_later epochs which f steps = changed_later epochs which f (each_of (λ (t : Epoch). which t ≡ true → Later t (f t)) (λ t w. steps t) epochs)

pub then_later : (a b d : List Epoch) → EpochsLater a b → EpochsLater b d → EpochsLater a d
then_later a b d f g q lasts e h = g q lasts e (f q lasts e h)

pub with_later : (e : EpochId) (members : Members) (p : Past) → EpochsLater p.epochs (with_epoch e members p).epochs
with_later e members p q lasts d h = at (list_any (is_epoch e) p.epochs)
  where
    at : (b : Bool) → has_epoch q d (cond b p (record p { epochs = record (unformed e) { members = members } ∷ p.epochs })).epochs ≡ true
    at true = h
    at false = or_second _ (has_epoch q d p.epochs) h

-- ---- steps ----

-- instances that are changed stay named
opened_later : (t : Epoch) (which : Instance → Bool) (f : Instance → Instance) (started : List ℕ) (makes : List Make) (left : List Left) (unmended : List FileId) → ((x : Instance) → (f x).grant ≡ x.grant) → ((x : Instance) → x.named ≡ true → (f x).named ≡ true)
    → Later t (record t { opened = change which f t.opened; started = started; makes = makes; left = left; unmended = unmended })
opened_later t which f started makes left unmended keep named = record {
  id = refl;
  joined = λ n h. h;
  granted = λ q h. h;
  named = λ i g h. all_changed (is_named_there i) which f (λ x w k. moved i x (is_named i x) refl k) t.opened h;
}
  where
    moved : (i : Serial) (x : Instance) (b : Bool) → is_named i x ≡ b → is_named_there i x ≡ true → is_named_there i (f x) ≡ true
    moved i x true e k = or_second (not (is_named i (f x))) (f x).named (named x (rw e at k))
    moved i x false e k = ap (λ b. not b || (f x).named) (ap (λ (g : Granted). same_serial g.inst i) (keep x) ∙ e)

-- what has nothing to do with instances and grants
others_later : (t : Epoch) (started : List ℕ) (makes : List Make) (left : List Left) → Later t (record t { started = started; makes = makes; left = left })
others_later t started makes left = record { id = refl; joined = λ n h. h; granted = λ q h. h; named = λ i g h. h }

joined_later : (t : Epoch) (site : ℕ) (vs : List Copy) → Later t (record t { joined = site ∷ t.joined; known = vs })
joined_later t site vs = record { id = refl; joined = λ n h. or_second (site == n) (is_number t.joined n) h; granted = λ q h. h; named = λ i g h. h }

granted_later : (t : Epoch) (g : Granted) (x : Instance) → x.grant ≡ g → list_any (is_grant g.inst) t.granted ≡ false → Later t (record t { granted = g ∷ t.granted; opened = t.opened ++ x ∷ [] })
granted_later t g x is new = record {
  id = refl;
  joined = λ n h. h;
  granted = λ q h. or_second (q g) (list_any q t.granted) h;
  named = λ i there h. all_joined (is_named_there i) t.opened (x ∷ []) h (and_true (is_named_there i x) true (apart i there (is_named i x) refl) refl);
}
  where
    apart : (i : Serial) → list_any (is_grant i) t.granted ≡ true → (b : Bool) → is_named i x ≡ b → is_named_there i x ≡ true
    apart i there true e = false_true (sym new ∙ subst (λ (j : Serial). list_any (is_grant j) t.granted ≡ true) (sym (ap (λ (d : Granted). d.inst) (sym is) ∙ serial_eq x.grant.inst i e)) there)
    apart i there false e = rw e refl

released_later : (t : Epoch) (q : Instance → Bool) (vs : List Copy) (makes : List Make) → Later t (record t { known = vs; opened = filter q t.opened; makes = makes })
released_later t q vs makes = record { id = refl; joined = λ n h. h; granted = λ a h. h; named = λ i g h. all_filter (is_named_there i) q t.opened h }

-- ---- the records ----

pub later_next : (c : Config) (p : Past) (r : Record) → IsTidy c p → may_follow c p r ≡ true → EpochsLater p.epochs (after c r p).epochs
later_next c p (rec.Up site boot) tidy may = same_later p.epochs
later_next c p (rec.Stopped site cause) tidy may = all_later p.epochs (is_home_of p site) (λ (t : Epoch). record t { left = record { site = site; held = (site_at p site).held } ∷ t.left }) (λ t. others_later t t.started t.makes _)
later_next c p (rec.Leave site e) tidy may = all_later p.epochs (is_home_of p site) (λ (t : Epoch). record t { left = record { site = site; held = (site_at p site).held } ∷ t.left }) (λ t. others_later t t.started t.makes _)
later_next c p (rec.Join site e members) tidy may = then_later p.epochs (with_epoch e members p).epochs _ (with_later e members p)
    (all_later (with_epoch e members p).epochs (is_epoch e) (λ (t : Epoch). record t { joined = site ∷ t.joined; known = with_all_known (site_at p site).held t.known }) (λ t. joined_later t site _))
later_next c p (rec.Start e group copies) tidy may = all_later p.epochs (is_epoch e) (λ (t : Epoch). record t { started = group ∷ t.started }) (λ t. others_later t (group ∷ t.started) t.makes t.left)
later_next c p (rec.Accept site process id words) tidy may = all_later p.epochs (λ (t : Epoch). is_in k.epoch t.id) (λ (t : Epoch). record t { opened = change (uses k.begins words t.id) (λ (x : Instance). record x { uses = x.uses + 1 }) t.opened })
    (λ t. opened_later t (uses k.begins words t.id) (λ (x : Instance). record x { uses = x.uses + 1 }) t.started t.makes t.left t.unmended (λ x. refl) (λ x h. h))
  where
    k : CallSoFar
    k = begun_call p site process id words (beginning (table p site process) (site_at p site).epoch id words)
later_next c p (rec.Look e id request f w result) tidy may = same_later p.epochs
later_next c p (rec.Grant e id request i m f stamp ss) tidy may = changed_later p.epochs (is_epoch e) (λ (t : Epoch). record t { granted = g ∷ t.granted; opened = t.opened ++ opened_as p g stamp ∷ [] })
    (each_more (λ (t : Epoch). is_epoch e t ≡ true → epoch_at p e ≡ t) (λ (t : Epoch). is_epoch e t ≡ true → Later t (record t { granted = g ∷ t.granted; opened = t.opened ++ opened_as p g stamp ∷ [] }))
    (λ t h w. granted_later t g (opened_as p g stamp) refl (ap (λ (u : Epoch). list_any (is_grant i) u.granted) (sym (h w)) ∙ grants_new c p (epoch_at p e) id request i m f stamp ss may)) p.epochs (epochs_are p e tidy.epochs))
  where
    g : Granted
    g = record { inst = i; call = id; process = process_of p id; mode = m; file = f; ss = ss }
later_next c p (rec.Refuse e id request i m f why) tidy may = all_later p.epochs (is_epoch e) (λ (t : Epoch). record t { makes = filter (λ (k : Make). not (is_make m && ((k.group == f.group) && same_call k.call id))) t.makes })
    (λ t. others_later t t.started (filter (λ (d : Make). not (is_make m && ((d.group == f.group) && same_call d.call id))) t.makes) t.left)
later_next c p (rec.Act e i n o result) tidy may = all_later p.epochs (is_epoch e) (acted i o result p)
    (λ t. opened_later t (is_named i) (λ (x : Instance). record x { work = work_after p t o result x }) t.started (fold (λ old x. begun_make o result x ++ old) t.makes (filter (is_named i) t.opened)) t.left t.unmended (λ x. refl) (λ x h. h))
later_next c p (rec.Commit f site stamp parents content) tidy may = all_later p.epochs (is_home_of p site) (λ (t : Epoch). record t { opened = change (is_writer f site) (λ (x : Instance). record x { work = committed stamp x.work }) t.opened })
    (λ t. opened_later t (is_writer f site) (λ (x : Instance). record x { work = committed stamp x.work }) t.started t.makes t.left t.unmended (λ x. refl) (λ x h. h))
later_next c p (rec.Release e i f stamp) tidy may = subst (λ (q : Past). EpochsLater p.epochs (change (is_epoch e) (released i f stamp) q.epochs)) (sym (closed_as (is_ender (epoch_at p e) i) stamp p (filter (is_named i) (epoch_at p e).opened)))
    (all_later p.epochs (is_epoch e) (released i f stamp) (λ t. released_later t (λ x. not (is_named i x)) (released i f stamp t).known (released i f stamp t).makes))
later_next c p (rec.Adopt f site stamp) tidy may = same_later p.epochs
later_next c p (rec.Answer site process id r) tidy may = of (answers_one c p site process id r tidy.calls may)
  where
    of : AnswersOne c p site process id r → EpochsLater p.epochs (told_by c (rec.Answer site process id r) p).epochs
    of it = subst (λ (q : Past). EpochsLater p.epochs q.epochs) (sym it.told) (all_later p.epochs (λ t. true) answer
        (λ t. opened_later t (takes t) (once_named r) t.started t.makes t.left (cond (is_in it.call.epoch t.id) (left_unmended r it.call.words) [] ++ t.unmended) (once_grant r) (λ x h. once_is_named r x)))
      where
        takes : Epoch → Instance → Bool
        takes t x = list_any (λ (d : Descriptor). is_in (Some d.epoch) t.id && is_named d.inst x) (named_by r it.call)

        answer : Epoch → Epoch
        answer t = record t { opened = change (takes t) (once_named r) t.opened; unmended = cond (is_in it.call.epoch t.id) (left_unmended r it.call.words) [] ++ t.unmended }
later_next c p (rec.Packet number from to kind) tidy may = same_later p.epochs
later_next c p rec.Void tidy may = same_later p.epochs
later_next c p rec.Budget tidy may = same_later p.epochs
