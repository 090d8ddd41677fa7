-- Tests of an epoch that last, and what a record adds to them.
use Rattle.std.proofs.Common.{◌≡◌, ℕ, ◌+◌, ◌==◌, ◌&&◌, ◌||◌, not, Bool, true, false, cond, List, [], ◌∷◌, filter, Option, Some, refl, sym, ap, ◌∙◌, arith}
use Rattle.std.specs.Prelude.{sum_by}
use Rattle.std.specs.Option.{is_none}
use Rattle.std.proofs.lemmas.List.Sums.{sum_by-cons}
use Rattle.std.specs.List.{find, list_any, list_all}
use Rattle.locus_ids.specs.declared.config.Config.{Config}
use Rattle.locus_ids.specs.declared.sites.Members.{Members}
use Rattle.locus_ids.specs.declared.ids.CallId.{CallId}
use Rattle.locus_ids.specs.declared.ids.EpochId.{EpochId}
use Rattle.locus_ids.specs.declared.ids.FileId.{FileId}
use Rattle.locus_ids.specs.declared.ids.Mode.{Mode}
use Rattle.locus_ids.specs.declared.ids.Serial.{Serial}
use Rattle.locus_ids.specs.declared.ids.Stamp.{Stamp}
use Rattle.trace_book.specs.Same.{same_call, same_epoch}
use Rattle.tree_model.specs.declared.instance.Granted.{Granted}
use Rattle.tree_model.specs.Epochs.{is_in}
use Rattle.promises.specs.Past.{Past, Epoch, CallSoFar, epoch_at, unformed, first_or, is_number}
use Rattle.promises.specs.After.{change, is_epoch, is_id, with_epoch, process_of}
use Rattle.promises.specs.Rows.{may_grant, is_synced, asks_open}
use Rattle.promises.specs.Tree.{open_refusal, is_placed}
use Rattle.plain_facts.proofs.Tests.{and_first, and_second, and_true, or_second, or_first}
use Rattle.past_laws.proofs.Names.{both_parts, epoch_eq, epoch_own, call_eq}
use Rattle.past_laws.proofs.Changing.{any_finds, Finds}
use Rattle.past_laws.proofs.CallsLists.{one_passes}
use Rattle.row_lists.proofs.ByPlace.{kept_finds}
use Rattle.audit_laws.specs.Tidy.Epochs.{is_grant}
use Rattle.audit_laws.specs.Tidy.Calls.{CallsStand}
use Rattle.audit_laws.specs.Tidy.Ties.{has_epoch, has_member, has_granted, has_named, is_named_there}
use Rattle.audit_laws.proofs.Tidy.Later.{IsLasting, EpochsLater}

pub member_lasts : (site : ℕ) → IsLasting (has_member site)
member_lasts site t u later h = later.joined site h

pub granted_lasts : (i : Serial) (id : CallId) → IsLasting (has_granted i id)
granted_lasts i id t u later h = later.granted (λ (g : Granted). is_grant i g && same_call g.call id) h

pub named_lasts : (i : Serial) → IsLasting (has_named i)
named_lasts i t u later h = (let parts : (list_any (is_grant i) t.granted ≡ true) × (list_all (is_named_there i) t.opened ≡ true) = both_parts (list_any (is_grant i) t.granted) (list_all (is_named_there i) t.opened) h in
    and_true (list_any (is_grant i) u.granted) (list_all (is_named_there i) u.opened) (later.granted (is_grant i) parts.0) (later.named i parts.0 parts.1))

-- ---- an epoch that is there ----

pub weaker_epoch : (q r : Epoch → Bool) (e : EpochId) → ((t : Epoch) → q t ≡ true → r t ≡ true) → (epochs : List Epoch) → has_epoch q e epochs ≡ true → has_epoch r e epochs ≡ true
weaker_epoch q r e less [] h = h
weaker_epoch q r e less (t ∷ ts) h = at (weaker_epoch q r e less ts) (is_epoch e t) (q t) refl refl h
  where
    at : (has_epoch q e ts ≡ true → has_epoch r e ts ≡ true) → (a b : Bool) → is_epoch e t ≡ a → q t ≡ b → ((a && b) || has_epoch q e ts) ≡ true → has_epoch r e (t ∷ ts) ≡ true
    at later true true f g k = or_first (is_epoch e t && r t) (has_epoch r e ts) (and_true (is_epoch e t) (r t) f (less t g))
    at later true false f g k = or_second (is_epoch e t && r t) (has_epoch r e ts) (later k)
    at later false b f g k = or_second (is_epoch e t && r t) (has_epoch r e ts) (later k)

pub is_there : (q : Epoch → Bool) (e : EpochId) (epochs : List Epoch) → has_epoch q e epochs ≡ true → list_any (is_epoch e) epochs ≡ true
is_there q e [] h = h
is_there q e (t ∷ ts) h = at (is_there q e ts) (is_epoch e t) (q t) h
  where
    at : (has_epoch q e ts ≡ true → list_any (is_epoch e) ts ≡ true) → (a b : Bool) → ((a && b) || has_epoch q e ts) ≡ true → (a || list_any (is_epoch e) ts) ≡ true
    at later true b k = refl
    at later false b k = later k

pub there_has : (q : Epoch → Bool) → ((t : Epoch) → q t ≡ true) → (e : EpochId) (epochs : List Epoch) → list_any (is_epoch e) epochs ≡ true → has_epoch q e epochs ≡ true
there_has q all e [] h = h
there_has q all e (t ∷ ts) h = at (there_has q all e ts) (is_epoch e t) refl h
  where
    at : (list_any (is_epoch e) ts ≡ true → has_epoch q e ts ≡ true) → (a : Bool) → is_epoch e t ≡ a → (a || list_any (is_epoch e) ts) ≡ true → has_epoch q e (t ∷ ts) ≡ true
    at later true f k = or_first (is_epoch e t && q t) (has_epoch q e ts) (and_true (is_epoch e t) (q t) f (all t))
    at later false f k = or_second (is_epoch e t && q t) (has_epoch q e ts) (later k)

pub there_later : (old new : List Epoch) → EpochsLater old new → (e : EpochId) → list_any (is_epoch e) old ≡ true → list_any (is_epoch e) new ≡ true
there_later old new later e h = is_there (λ t. true) e new (later (λ t. true) (λ t u l k. k) e (there_has (λ t. true) (λ t. refl) e old h))

-- what a change of the epoch adds
pub changed_has : (q : Epoch → Bool) (e : EpochId) (f : Epoch → Epoch) → ((t : Epoch) → (f t).id ≡ t.id) → ((t : Epoch) → q (f t) ≡ true) → (epochs : List Epoch) → list_any (is_epoch e) epochs ≡ true → has_epoch q e (change (is_epoch e) f epochs) ≡ true
changed_has q e f keep adds [] h = h
changed_has q e f keep adds (t ∷ ts) h = at (changed_has q e f keep adds ts) (is_epoch e t) refl h
  where
    rest : Bool
    rest = has_epoch q e (change (is_epoch e) f ts)

    at : (list_any (is_epoch e) ts ≡ true → has_epoch q e (change (is_epoch e) f ts) ≡ true) → (a : Bool) → is_epoch e t ≡ a → (a || list_any (is_epoch e) ts) ≡ true → ((is_epoch e (cond (is_epoch e t) (f t) t) && q (cond (is_epoch e t) (f t) t)) || has_epoch q e (change (is_epoch e) f ts)) ≡ true
    at later true g k = rw g (or_first (is_epoch e (f t) && q (f t)) rest (and_true (is_epoch e (f t)) (q (f t)) (ap (λ (d : EpochId). same_epoch d e) (keep t) ∙ g) (adds t)))
    at later false g k = or_second _ rest (later k)

pub with_there : (e : EpochId) (members : Members) (p : Past) → list_any (is_epoch e) (with_epoch e members p).epochs ≡ true
with_there e members p = at (list_any (is_epoch e) p.epochs) refl
  where
    at : (b : Bool) → list_any (is_epoch e) p.epochs ≡ b → list_any (is_epoch e) (cond b p (record p { epochs = record (unformed e) { members = members } ∷ p.epochs })).epochs ≡ true
    at true h = h
    at false h = or_first (same_epoch e e) (list_any (is_epoch e) p.epochs) (epoch_own e)

pub epoch_id : (p : Past) (e : EpochId) → (epoch_at p e).id ≡ e
epoch_id p e = of p.epochs
  where
    of : (ts : List Epoch) → (first_or (unformed e) (is_epoch e) ts).id ≡ e
    of [] = refl
    of (t ∷ ts) = at (of ts) (is_epoch e t) refl
      where
        at : (first_or (unformed e) (is_epoch e) ts).id ≡ e → (b : Bool) → is_epoch e t ≡ b → (cond b t (first_or (unformed e) (is_epoch e) ts)).id ≡ e
        at later true h = epoch_eq t.id e h
        at later false h = later

-- ---- the call of a grant ----

pub record GrantsOne (p : Past) (e : EpochId) (id : CallId) : Type 0 where
  pub call : CallSoFar
  pub only : filter (is_id id) p.calls ≡ call ∷ []
  pub found : find (is_id id) p.calls ≡ Some call
  pub is_it : call.id ≡ id
  pub inside : is_in call.epoch e ≡ true
  pub process_is : process_of p id ≡ call.process

pub grants_one : (c : Config) (p : Past) (e : EpochId) (id : CallId) (request : ℕ) (i : Serial) (m : Mode) (f : FileId) (stamp : Option Stamp) (ss : ℕ) → CallsStand p.sites p.calls → may_grant c p (epoch_at p e) id request i m f stamp ss ≡ true → GrantsOne p e id
grants_one c p e id request i m f stamp ss st may = of (any_finds test p.calls (and_second (not (list_any (is_grant i) (epoch_at p e).granted)) _ (and_second (i.us == id.site) _ (and_second (is_number (epoch_at p e).joined ss) _ (and_second (is_synced c (epoch_at p e) f.group) _ (and_second (is_number (epoch_at p e).started f.group) _ may))))))
  where
    asked : CallSoFar → Bool
    asked k = asks_open c p request m f k && (is_none (open_refusal c p (epoch_at p e) k m f) && is_placed c p (epoch_at p e) k m f stamp ss)

    test : CallSoFar → Bool
    test k = is_id id k && (is_in k.epoch (epoch_at p e).id && asked k)

    of : Finds test p.calls → GrantsOne p e id
    of it = (let first : (is_id id it.one ≡ true) × ((is_in it.one.epoch (epoch_at p e).id && asked it.one) ≡ true) = both_parts (is_id id it.one) (is_in it.one.epoch (epoch_at p e).id && asked it.one) it.passes in
        let only : filter (is_id id) p.calls ≡ it.one ∷ [] = one_passes (is_id id) test p.calls it.one (st.once id) it.found first.0 in
        record {
          call = it.one;
          only = only;
          found = kept_finds (is_id id) p.calls it.one only;
          is_it = call_eq it.one.id id first.0;
          inside = ap (is_in it.one.epoch) (sym (epoch_id p e)) ∙ and_first (is_in it.one.epoch (epoch_at p e).id) (asked it.one) first.1;
          process_is = ap (sum_by (λ (k : CallSoFar). k.process)) only ∙ (sum_by-cons (λ (k : CallSoFar). k.process) it.one [] ∙ alone it.one.process);
        })
      where
        alone : (n : ℕ) → n + 0 ≡ n
        alone n = omega arith
