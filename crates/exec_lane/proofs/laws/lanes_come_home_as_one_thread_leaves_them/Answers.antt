use Rattle.exec_lane.proofs.AllHome.{come_home, ran_all}
use Rattle.exec_lane.proofs.laws.lanes_come_home_as_one_thread_leaves_them.Goals as goal

pub returns : goal.returns
returns c = record {
  home = come_home;
  ran = ran_all;
}
