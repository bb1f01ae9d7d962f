-- `mvd_feed` meets its contract: it leaves what `FrameSplitter::feed` gives, and a mark that is neither 0 nor 1 is refused without it.
-- A refusal leaves the state and the five words.
use Rattle.std.proofs.Common.{◌≡◌, ℕ, ◌≤◌, ◌<◌, List, get_or, arith, ap, ◌∙◌}
use borrow.Author.Tests.{lt-ltb, le-ltb}
use Rattle.error.specs.declared.WireError.TheVariants.{BadState}
use Rattle.splitter.specs.declared.FrameSplitter.{FrameSplitter}
use Rattle.splitter.specs.Feed.{Given, refused_as, feed_rule}
use Rattle.abi.proofs.Passing.{passed, refuses}
use Rattle.abi_splitter.specs.Fed.{state_of, feed_from, left_by}
use Rattle.abi_splitter.proofs.mvd_feed.Goals as goal

-- a mark of 0 or 1 goes to `feed`; another is refused
module _ (words hold chunk : List ℕ) where
  goes : get_or words 1 0 ≤ 1 → {s : FrameSplitter} → s ≡ state_of words → {g : Given} → g ≡ feed_rule s hold chunk → g ≡ feed_from words hold chunk
  unfolding feed_from
  goes h p q = q ∙ ap (λ (s : FrameSplitter). feed_rule s hold chunk) p ∙ rw (le-ltb 1 (get_or words 1 0) h)

  stays : 1 < get_or words 1 0 → refused_as 9 (state_of words) hold ≡ feed_from words hold chunk
  unfolding feed_from
  stays h = rw (lt-ltb 1 (get_or words 1 0) h)

pub returns-then-is_bad-clause-reply : goal.returns-then-is_bad-clause-reply
returns-then-is_bad-clause-reply c =
    let a = c.args in
    refuses BadState (ap left_by (stays a.splitter.now a.hold.now a.chunk.now (omega arith))) _ _ c.tell.ensures

pub returns-in-Ok-clause-reply : goal.returns-in-Ok-clause-reply
returns-in-Ok-clause-reply c =
    let a = c.args in
    let fed = goes a.splitter.now a.hold.now a.chunk.now (omega arith) c.state_of-state.ensures c.in-Ok.ensures in
    rw (c.words_of.ensures, c.fed_of.ensures) (passed (ap left_by fed) _ _)

pub returns-in-Err-clause-reply : goal.returns-in-Err-clause-reply
returns-in-Err-clause-reply c =
    let a = c.args in
    let fed = goes a.splitter.now a.hold.now a.chunk.now (omega arith) c.state_of-state.ensures c.in-Err.ensures in
    refuses c.in-Err.e (ap left_by fed) _ _ c.tell-in-Err.ensures
