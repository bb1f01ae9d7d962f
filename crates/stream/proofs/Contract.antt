-- What the code is proved to ensure, as the check reads it off src/lib.rt (`Post`), is what a trace of calls asks of each call.
-- So a theorem about all traces is one about the code.
use mathlib.Core.Path.{◌≡◌, sym, ap, ◌∙◌}
use mathlib.Core.List.{List, ◌∷◌}
use Prim.Native.Nat.{ℕ}
use lib.ListN.{take, drop}
use Rattle.error.specs.Refusal.{yes}
use Rattle.splitter.specs.declared.FrameSplitter.{FrameSplitter}
use Rattle.splitter.specs.Feed.{frame, told_event, taken_of, feed_rule}
use Rattle.stream.specs.Stream.{said_of, Call, call, Calls, next, Feeds}
use Rattle.stream.specs.Stream as stream
use Rattle.splitter.proofs.FrameSplitter.feed.Reads as feed
use Rattle.view.proofs.view.Reads as view

-- A call of `feed` with the arguments a (the splitter, the hold buffer, the chunk), its reply r and the arguments x at exit: offered the
-- next n bytes of the stream b, it is the next call of a trace.
pub feed-calls : (κs a r x : _) → feed.Post κs a r x
    → {s : FrameSplitter} {h b : List ℕ} {t : List Call} (n : ℕ) → a.1.1.0.now ≡ take n b → Calls x.0.now x.1.0.now (drop (taken_of r) b) t s h
    → Calls a.0.now a.1.0.now b (call (take (taken_of r) b) (said_of (take n b) x.1.0.now (told_event r)) ∷ t) s h
feed-calls κs a r x p {b = b} n e c = next {b = b} n r x.0.now x.1.0.now (p ∙ ap (feed_rule a.0.now a.1.0.now) e) c

-- The same of chunks that come one after the other: offered the chunk a, it leaves the rest of it to be offered again.
pub feed-feeds : (κs a r x : _) → feed.Post κs a r x
    → {s : FrameSplitter} {h : List ℕ} {cs : List (List ℕ)} {t : List Call}
    → Feeds x.0.now x.1.0.now (drop (taken_of r) a.1.1.0.now ∷ cs) t s h
    → Feeds a.0.now a.1.0.now (a.1.1.0.now ∷ cs) (call (take (taken_of r) a.1.1.0.now) (said_of a.1.1.0.now x.1.0.now (told_event r)) ∷ t) s h
feed-feeds κs a r x p f = stream.Feeds.feed r x.0.now x.1.0.now p f

-- A call of `view` with the chunk, the hold buffer and the place that was answered shows the bytes that the trace has.
pub view-shows : (κs a r x : _) → view.Post κs a r x
    → said_of a.0.now a.1.0.now (yes (frame a.1.1.0)) ≡ yes (frame r.now)
view-shows κs a r x p = ap (λ (w : List ℕ). yes (frame w)) (sym p.0)
