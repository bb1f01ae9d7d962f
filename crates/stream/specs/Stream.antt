-- The calls of a splitter over a stream of bytes, and what a caller sees of each: the bytes that it took, and its answer.
-- `Calls` has every way to cut the stream, and every reply that the contract of `feed` allows; the theorems speak of all of them.
use Rattle.std.specs.Prelude.{ℕ, ◌≡◌, cond, List, [], ◌∷◌, ◌++◌, length, take, drop, leb}
use Rattle.std.specs.Prelude.{Result}
use Rattle.error.specs.declared.WireError.{WireError}
use Rattle.error.specs.Refusal.{Told, yes, no, on_yes}
use Rattle.splitter.specs.declared.FrameSplitter.{FrameSplitter}
use Rattle.splitter.specs.declared.Fed.{Fed}
use Rattle.splitter.specs.declared.Place.{Place}
use Rattle.splitter.specs.Feed.{Answer, more, overlong, frame, on_frame, told_event, taken_of, feed_rule, given_by}
use Rattle.view.specs.View.{view_rule}

-- an answer as the caller has it: a frame with the bytes that `view` shows, a refusal by its number and values
abbrev pub Said : Type 0
Said = Told (Answer (List ℕ))

-- c is the chunk, h the hold buffer after the call
abbrev pub said_of : List ℕ → List ℕ → Told (Answer Place) → Said
said_of c h a = on_yes (on_frame (view_rule c h)) a

pub record Call : Type 0 where
  pub took : List ℕ
  pub said : Said

abbrev pub call : List ℕ → Said → Call
call x a = record { took = x; said = a }

-- Calls that use up the stream b, from the state s and the hold buffer h to the state s'' and the hold buffer h'': each is offered
-- the next n bytes of what is not yet taken, for any n, and only the calls touch the splitter and the hold buffer. A call's reply r,
-- and the splitter s' and the hold buffer h' after it, are any that the contract of `feed` allows.
pub data Calls : FrameSplitter → List ℕ → List ℕ → List Call → FrameSplitter → List ℕ → Type 0 where
  done : {s : FrameSplitter} {h : List ℕ} → Calls s h [] [] s h
  next : {s s'' : FrameSplitter} {h h'' b : List ℕ} {t : List Call} (n : ℕ) (r : Result Fed WireError) (s' : FrameSplitter) (h' : List ℕ)
      → given_by r s' h' ≡ feed_rule s h (take n b)
      → Calls s' h' (drop (taken_of r) b) t s'' h''
      → Calls s h b (call (take (taken_of r) b) (said_of (take n b) h' (told_event r)) ∷ t) s'' h''

-- The same for chunks that come one after the other, the untaken rest of each being offered again until none is left.
pub data Feeds : FrameSplitter → List ℕ → List (List ℕ) → List Call → FrameSplitter → List ℕ → Type 0 where
  done : {s : FrameSplitter} {h : List ℕ} → Feeds s h [] [] s h
  used : {s s'' : FrameSplitter} {h h'' : List ℕ} {cs : List (List ℕ)} {t : List Call} → Feeds s h cs t s'' h'' → Feeds s h ([] ∷ cs) t s'' h''
  feed : {s s'' : FrameSplitter} {h h'' c : List ℕ} {cs : List (List ℕ)} {t : List Call} (r : Result Fed WireError) (s' : FrameSplitter) (h' : List ℕ)
      → given_by r s' h' ≡ feed_rule s h c
      → Feeds s' h' (drop (taken_of r) c ∷ cs) t s'' h''
      → Feeds s h (c ∷ cs) (call (take (taken_of r) c) (said_of c h' (told_event r)) ∷ t) s'' h''

-- some such calls
pub record Through (s : FrameSplitter) (h : List ℕ) (cs : List (List ℕ)) : Type 0 where
  pub trace : List Call
  pub state : FrameSplitter
  pub held : List ℕ
  pub feeds : Feeds s h cs trace state held

abbrev pub joined : List (List ℕ) → List ℕ
joined [] = []
joined (c ∷ cs) = c ++ joined cs

-- all that some calls took
abbrev pub taken_by : List Call → List ℕ
taken_by [] = []
taken_by (c ∷ t) = c.took ++ taken_by t

-- all answers of some calls but More
abbrev pub unless_more : Said → List Said
unless_more (yes more) = []
unless_more (yes overlong) = yes overlong ∷ []
unless_more (yes (frame w)) = yes (frame w) ∷ []
unless_more (no n vs) = no n vs ∷ []

abbrev pub answers : List Call → List Said
answers [] = []
answers (c ∷ t) = unless_more c.said ++ answers t

-- a frame's answer by its own length
abbrev pub answer_to : ℕ → List ℕ → Said
answer_to H w = cond (leb (length w) H) (yes (frame w)) (yes overlong)
