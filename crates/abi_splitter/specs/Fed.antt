-- How the splitter's state and answer pass to C. A state is seven words: the count; the mark, 0 or 1, another number being a bad state; and
-- the counts. An answer is five words: 0 More, 1 Frame or 2 Overlong; the bytes taken; and a frame's place, 0 where there is none.
use Rattle.std.specs.Prelude.{ℕ, cond, List, [], ◌∷◌, eqb, ltb, get_or}
use Rattle.error.specs.Refusal.{Told, on_yes}
use Rattle.splitter.specs.declared.FrameSplitter.{FrameSplitter}
use Rattle.splitter.specs.declared.Place.{Place}
use Rattle.splitter.specs.Feed.{Answer, more, overlong, frame, Given, refused_as, feed_rule}
use Rattle.abi.specs.Answer.{flag_of}

abbrev pub state_of : List ℕ → FrameSplitter
state_of ws =
    record {
      count = get_or ws 0 0;
      skipping = eqb (get_or ws 1 0) 1;
      counts = record { taken = get_or ws 2 0; dropped = get_or ws 3 0; framed = get_or ws 4 0; lost = get_or ws 5 0; held = get_or ws 6 0 };
    }

abbrev pub words_of : FrameSplitter → List ℕ
words_of s =
    s.count ∷ flag_of s.skipping
    ∷ s.counts.taken ∷ s.counts.dropped ∷ s.counts.framed ∷ s.counts.lost ∷ s.counts.held ∷ []

-- what a call gives, from the seven words
unfoldable pub feed_from : List ℕ → List ℕ → List ℕ → Given
feed_from ws hold chunk = cond (ltb 1 (get_or ws 1 0)) (refused_as 9 (state_of ws) hold) (feed_rule (state_of ws) hold chunk)

-- which event, the bytes taken, and of a frame: whether it lies in the hold, its start and its length
unfoldable pub fed_of : ℕ → Answer Place → List ℕ
fed_of taken more = 0 ∷ taken ∷ 0 ∷ 0 ∷ 0 ∷ []
fed_of taken (frame p) = 1 ∷ taken ∷ flag_of p.in_hold ∷ p.start ∷ p.len ∷ []
fed_of taken overlong = 2 ∷ taken ∷ 0 ∷ 0 ∷ 0 ∷ []

-- what a call leaves, where it is not refused: the next state, and its answer
abbrev pub left_by : Given → Told (List ℕ × List ℕ)
left_by g = on_yes (λ a. (words_of g.state, fed_of g.taken a)) g.answer
