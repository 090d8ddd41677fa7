-- A call that waits at a site has its row there.
use Rattle.std.proofs.Common.{◌≡◌, ℕ, ◌==◌, Bool, true, false, ◌&&◌, ◌||◌, List, [], ◌∷◌, Some, refl, sym, ◌∙◌, ap, subst, inl, inr}
use Rattle.std.specs.List.{find, list_any}
use Rattle.role_steps.proofs.of_plain_facts.Numbers.{equal_self}
use Rattle.role_steps.proofs.of_plain_facts.Options.{some_same}
use Rattle.locus_ids.specs.declared.config.Config.{Config}
use Rattle.trace_book.specs.Same.{same_call}
use Rattle.role_steps.specs.Views.{Frame, Users}
use Rattle.role_steps.specs.declared.users.WaitingCall.{WaitingCall}
use Rattle.the_run.specs.Kept.{Among}
use Rattle.the_run.specs.Worlds.{Line}
use Rattle.tree_model.specs.declared.accepted.Waiting.{Waiting}
use Rattle.tree_model.specs.Calls.{call_named, waiting}
use Rattle.lawful_trace.specs.CallRows.{is_this}
use Rattle.tree_laws.specs.Following.{IsFollowed}
use Rattle.tree_laws.specs.Printed.{entries}
use Rattle.tree_laws.specs.Users.{InsideUsers, WaitingFact}
use Rattle.tree_laws.proofs.Names.{same_call_own}
use Rattle.tree_laws.proofs.Waiting.{accepted}
use Rattle.store_laws.proofs.Holdings.Holding.{some_found}
use Rattle.store_laws.proofs.of_tree_laws.Syncs.Rows.{every_among}
use Rattle.store_laws.specs.Users.Turning.{it}

-- one that passes among them
pub any_among : {A : Type 0} (p : A → Bool) (xs : List A) (x : A) → Among x xs → p x ≡ true → list_any p xs ≡ true
any_among p [] x m e = absurd m
any_among p (y ∷ ys) x (inl is) e = ap (λ (b : Bool). b || list_any p ys) (ap p (sym is) ∙ e)
any_among p (y ∷ ys) x (inr m) e = at (p y) (any_among p ys x m e)
  where
    at : (b : Bool) → list_any p ys ≡ true → (b || list_any p ys) ≡ true
    at true k = refl
    at false k = k

three : (a b d : Bool) → a ≡ true → b ≡ true → d ≡ true → a && b && d ≡ true
three true true true p q r = refl
three true true false p q r = r
three true false d p q r = q
three false b d p q r = p

-- the row of the call
pub record HasRow (f : Frame) (u : Users) (w : Waiting) : Type 0 where
  pub row : WaitingCall
  pub among : Among row u.waiting
  pub call_is : w.call ≡ it f row
  pub same : w ≡ record { site = f.me; process = row.process; call = it f row; words = row.words; epoch = Some f.epoch }

pub has_row : (c : Config) (t : List Line) (f : Frame) (u : Users) → IsFollowed c t → InsideUsers c t f u → (w : Waiting) → Among w (waiting (entries t)) → w.site ≡ f.me → HasRow f u w
has_row c t f u h k w m own = over (k.all w.call w.process found.0 found.1)
  where
    named : call_named (entries t) w.call ≡ Some w
    named = every_among (λ (x : Waiting). call_named (entries t) x.call ≡ Some x) (waiting (entries t)) w (accepted c t h).waits m

    this : is_this f.me w.process w.call w ≡ true
    this = three (w.site == f.me) (w.process == w.process) (same_call w.call w.call) (subst (λ (s : ℕ). (w.site == s) ≡ true) own (equal_self w.site)) (equal_self w.process) (same_call_own w.call)

    found : (x : Waiting) × (find (is_this f.me w.process w.call) (waiting (entries t)) ≡ Some x) × (is_this f.me w.process w.call x ≡ true)
    found = some_found (is_this f.me w.process w.call) (waiting (entries t)) (any_among (is_this f.me w.process w.call) (waiting (entries t)) w m this)

    over : (v : WaitingCall) × Among v u.waiting × (w.call ≡ it f v) → HasRow f u w
    over z = record { row = z.0; among = z.1; call_is = z.2; same = some_same w fact.caller (sym named ∙ (ap (call_named (entries t)) z.2 ∙ fact.named)) ∙ fact.caller_is }
      where
        fact : WaitingFact c t f z.0
        fact = every_among (WaitingFact c t f) u.waiting z.0 k.calls z.1
