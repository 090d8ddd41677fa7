-- What stands of open instances with each record.
use Rattle.std.proofs.Common.{◌≡◌, ℕ, Bool, true, false, List, length, Some, refl, sym, ◌∙◌, ap, subst, ◌⊎◌, inl, inr}
use Rattle.std.specs.List.{AllByRecursion}
use Rattle.locus_ids.specs.declared.config.Config.{Config}
use Rattle.locus_ids.specs.declared.ids.CallId.{CallId}
use Rattle.locus_ids.specs.declared.ids.EpochId.{EpochId}
use Rattle.locus_ids.specs.declared.ids.Serial.{Serial}
use Rattle.trace_book.specs.declared.descriptor.Descriptor.{Descriptor}
use Rattle.trace_book.specs.declared.record.Record.{Record}
use Rattle.trace_book.specs.declared.record.Record.TheVariants as says
use Rattle.tree_model.specs.of_file_effects.declared.work.Work.{Work}
use Rattle.tree_model.specs.Folds.{Trace}
use Rattle.promises.specs.of_lawful_trace.Lawful.{MayCome}
use Rattle.promises.specs.of_lawful_trace.Tables.{descriptor, uses_of, use_number, close_of, has_named, is_call}
use Rattle.promises.specs.Past.{Past, Instance}
use Rattle.promises.specs.After.{told_by}
use Rattle.past_laws.specs.Standing.{HasTurn, InstanceStands}
use Rattle.past_laws.proofs.CallsLists.{each_more}
use Rattle.past_laws.proofs.CallsGranted.{With, granted_stays}
use Rattle.past_laws.proofs.CallsUsers.{named_more}
use Rattle.past_laws.proofs.CallsDescribed.{IsOpenedBy, described}
use Rattle.past_laws.proofs.CallsAlike.{head, each_alike}
use Rattle.past_laws.proofs.CallsSame.{IsNoAccept, heads}

-- ---- one instance, where no call is accepted ----

-- closes are of accepted calls
closed_same : (n : ℕ) (w : Record) (before : Trace) (e : EpochId) (i : Serial) → IsNoAccept w → close_of (With n w before) e i ≡ close_of before e i
closed_same n (says.Accept s process id words) before e i left = absurd left
closed_same n _ before e i left = refl

pub turns_same : (c : Config) (n : ℕ) (w : Record) (before : Trace) (p : Past) (e : EpochId) (x : Instance) → IsNoAccept w → uses_of (With n w before) e x.grant.inst ≡ uses_of before e x.grant.inst → AllByRecursion (HasTurn before e x) p.calls → AllByRecursion (HasTurn (With n w before) e x) (told_by c w p).calls
turns_same c n w before p e x left same k = each_alike head (HasTurn (With n w before) e x) (λ y h. h) (λ y h. h) p.calls (told_by c w p).calls (sym (heads c w p left))
    (each_more (HasTurn before e x) (HasTurn (With n w before) e x) (λ y h m. h m ∙ ap (λ (us : List CallId). is_call (use_number us m) y.id) (sym same)) p.calls k)

-- an instance with another work, that may have been named, where it isn't used
pub instance_kept : (c : Config) (n : ℕ) (w : Record) (before : Trace) (p : Past) → IsNoAccept w → MayCome c before w → (e : EpochId) (x : Instance) (now : Work) (is_named : Bool) → uses_of (With n w before) e x.grant.inst ≡ uses_of before e x.grant.inst
    → (is_named ≡ true → has_named (With n w before) x.grant.call ≡ true) → (is_named ≡ false → x.named ≡ false)
    → (is_named ≡ false → (s q fd : ℕ) (d : Descriptor) → IsOpenedBy before w s q fd d → d.epoch ≡ e → d.inst ≡ x.grant.inst → ⊥)
    → InstanceStands before p.calls e x → InstanceStands (With n w before) (told_by c w p).calls e (record x { work = now; named = is_named })
instance_kept c n w before p left may e x now is_named same names was new st = record {
  granted = granted_stays c n w before e x.grant.inst x.grant.call may st.granted;
  uses = st.uses ∙ ap length (sym same);
  first = λ h. ap (λ (us : List CallId). is_call (use_number us 1) x.grant.call) same ∙ st.first h;
  named = names;
  unnamed = λ h. (let k = st.unnamed (was h) in record { unused = same ∙ k.unused; unclosed = closed_same n w before e x.grant.inst left ∙ k.unclosed });
  undescribed = λ h s q fd d stands e_is i_is. undescribed h s q fd d e_is i_is (described n w before s q fd d stands);
  turns = turns_same c n w before p e x left same st.turns;
}
  where
    undescribed : is_named ≡ false → (s q fd : ℕ) (d : Descriptor) → d.epoch ≡ e → d.inst ≡ x.grant.inst → (descriptor before s q fd ≡ Some d) ⊎ IsOpenedBy before w s q fd d → ⊥
    undescribed h s q fd d e_is i_is (inl k) = st.undescribed (was h) s q fd d k e_is i_is
    undescribed h s q fd d e_is i_is (inr k) = new h s q fd d k e_is i_is

-- no reply
abbrev pub LeavesNames : Record → Type 0
LeavesNames (says.Accept s process id words) = ⊥
LeavesNames (says.Answer s process id r) = ⊥
LeavesNames _ = Unit {0}

pub leaves_calls : (w : Record) → LeavesNames w → IsNoAccept w
leaves_calls (says.Accept s process id words) left = left
leaves_calls (says.Answer s process id r) left = absurd left
leaves_calls _ left = tt

not_opened : (before : Trace) (w : Record) (s q fd : ℕ) (x : Descriptor) → LeavesNames w → IsOpenedBy before w s q fd x → ⊥
not_opened before w s q fd x left o = subst LeavesNames o.opens left

-- uses are of accepted calls and of replies
unused_same : (n : ℕ) (w : Record) (before : Trace) (e : EpochId) (i : Serial) → LeavesNames w → uses_of (With n w before) e i ≡ uses_of before e i
unused_same n (says.Accept s process id words) before e i left = absurd left
unused_same n (says.Answer s process id r) before e i left = absurd left
unused_same n _ before e i left = refl

-- where no call is accepted or answered, an instance stands with another work
pub worked : (c : Config) (n : ℕ) (w : Record) (before : Trace) (p : Past) → LeavesNames w → MayCome c before w → (e : EpochId) (x : Instance) (now : Work) → InstanceStands before p.calls e x → InstanceStands (With n w before) (told_by c w p).calls e (record x { work = now })
worked c n w before p left may e x now st = instance_kept c n w before p (leaves_calls w left) may e x now x.named (unused_same n w before e x.grant.inst left) (λ h. named_more n w before x.grant.call (st.named h)) (λ h. h) (λ h s q fd d o e_is i_is. not_opened before w s q fd d left o) st

pub stays : (c : Config) (n : ℕ) (w : Record) (before : Trace) (p : Past) → LeavesNames w → MayCome c before w → (e : EpochId) (x : Instance) → InstanceStands before p.calls e x → InstanceStands (With n w before) (told_by c w p).calls e x
stays c n w before p left may e x st = worked c n w before p left may e x x.work st
