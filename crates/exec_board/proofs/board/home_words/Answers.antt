use Rattle.std.proofs.Common.{◌∙◌}
use Rattle.exec_board.proofs.Begins.{within_more, words_more}
use Rattle.exec_board.proofs.board.home_words.Goals as goal

pub loop-lane-preserved : goal.loop-lane-preserved
loop-lane-preserved c = (
  c.in_ok-push.ensures.items
      ∙ words_more c.args.boxes.now c.loop-lane.lane-index c.lane-item.result c.loop-lane.words.items c.home_word.result c.loop-lane-test.true c.lane-item.is c.loop-lane.invariant.0 c.home_word.ensures.value,
  within_more c.args.boxes.now c.loop-lane.lane-index c.lane-item.result c.loop-lane-test.true c.lane-item.is c.home_word.ensures.within c.loop-lane.invariant.1,
)
