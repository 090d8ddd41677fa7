-- What the lines of a tree ask.
use Rattle.std.proofs.Common.{◌≡◌, ℕ, List, [], ◌∷◌, ◌++◌, Option, None, Some, refl, ap, sym, ◌∙◌}
use Rattle.the_run.specs.Commands.{Asked}
use Rattle.the_run.specs.Asking.{Asks}
use Rattle.schedule_run.specs.Tree.{with_asked}
use Rattle.schedule_run.proofs.OneAsking.{one_asking}
use Rattle.input_run.specs.Inputs.{before_calls, AskAll}

first_asked : (asked : Option Asked) → with_asked [] asked ≡ before_calls asked []
first_asked None = refl
first_asked (Some a) = refl

asked_between : (asked last : Option Asked) (calls : List Asked) → with_asked (before_calls asked calls) last ≡ before_calls asked (with_asked calls last)
asked_between None None calls = refl
asked_between None (Some b) calls = refl
asked_between (Some a) None calls = refl
asked_between (Some a) (Some b) calls = refl

-- one line more
pub ask_more : (all : List (List ℕ)) (calls : List Asked) (bytes : List ℕ) (asked : Option Asked) → AskAll all calls → Asks bytes asked → AskAll (all ++ bytes ∷ []) (with_asked calls asked)
ask_more [] [] bytes asked h asks = (asked, [], asks, tt, first_asked asked)
ask_more [] (a ∷ calls) bytes asked h asks = absurd h
ask_more (b ∷ bs) calls bytes asked h asks =
    (h.0, with_asked h.1 asked, h.2, ask_more bs h.1 bytes asked h.3 asks, ap (λ (c : List Asked). with_asked c asked) h.4 ∙ asked_between h.0 asked h.1)

before_more : (asked : Option Asked) (xs ys : List Asked) → before_calls asked (xs ++ ys) ≡ before_calls asked xs ++ ys
before_more None xs ys = refl
before_more (Some a) xs ys = refl

-- the calls of some first lines, and those of the rest
pub record AskCut (front rest : List (List ℕ)) (calls : List Asked) : Type 0 where
  pub first : List Asked
  pub later : List Asked
  pub split : calls ≡ first ++ later
  pub asks : AskAll front first
  pub goes_on : AskAll rest later

pub ask_cut : (front : List (List ℕ)) (rest : List (List ℕ)) (calls : List Asked) → AskAll (front ++ rest) calls → AskCut front rest calls
ask_cut [] rest calls h = record { first = []; later = calls; split = refl; asks = tt; goes_on = h }
ask_cut (b ∷ bs) rest calls h =
    let more = ask_cut bs rest h.1 h.3 in
    record {
      first = before_calls h.0 more.first;
      later = more.later;
      split = h.4 ∙ (ap (λ (c : List Asked). before_calls h.0 c) more.split ∙ before_more h.0 more.first more.later);
      asks = (h.0, more.first, h.2, more.asks, refl);
      goes_on = more.goes_on;
    }

-- the last line asks something
pub ask_last : (all : List (List ℕ)) (bytes : List ℕ) (calls : List Asked) → AskAll (all ++ bytes ∷ []) calls → (asked : Option Asked) × Asks bytes asked
ask_last all bytes calls h = let cut = ask_cut all (bytes ∷ []) calls h in (cut.goes_on.0, cut.goes_on.2)

-- lines ask one list of calls
pub ask_once : (all : List (List ℕ)) (xs ys : List Asked) → AskAll all xs → AskAll all ys → xs ≡ ys
ask_once [] [] [] p q = refl
ask_once [] [] (y ∷ ys) p q = absurd q
ask_once [] (x ∷ xs) ys p q = absurd p
ask_once (b ∷ bs) xs ys p q =
    p.4 ∙ (ap (λ (o : Option Asked). before_calls o p.1) (one_asking b p.0 q.0 p.2 q.2)
    ∙ (ap (λ (c : List Asked). before_calls q.0 c) (ask_once bs p.1 q.1 p.3 q.3) ∙ sym q.4))
