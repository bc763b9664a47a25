-- Worked examples: documents, each with the text of its upgrade.
use Rattle.std.specs.Prelude.{ℕ, List, codes, ◌++◌}

-- a timer alone
abbrev pub timer_text : List ℕ
timer_text =
    codes "{\"version\":1,\"nodes\":[{\"name\":\"n\",\"timers\":[{\"name\":\"t\",\"period\":10,\"script\":[[\"log\",\"now\"]]}]}],\"moments\":[30,30,30]}"

abbrev pub timer_upgraded : List ℕ
timer_upgraded =
    codes "{\"moments\":[30,30,30],\"nodes\":[{\"name\":\"n\",\"timers\":[{\"name\":\"t\",\"period\":10,\"script\":[[\"log\",\"now\"]]}]}],"
    ++ codes "\"order\":\"kind\",\"version\":2}"

-- one of each object, each with a field that isn't its own, and an entry of each form with the fields of the others
abbrev pub all_objects_text : List ℕ
all_objects_text =
    codes "{\"version\":2,\"order\":\"arrival\",\"topics\":[\"x\"],\"depth\":1e3,\"nodes\":[{\"name\":\"n\",\"topics\":[],"
    ++ codes "\"groups\":[{\"name\":\"g\",\"kind\":\"reentrant\",\"period\":-0}],"
    ++ codes "\"timers\":[{\"name\":\"t\",\"period\":1,\"group\":\"g\",\"depth\":0.5}],"
    ++ codes "\"subscriptions\":[{\"name\":\"s\",\"topic\":\"x\",\"depth\":2,\"period\":null}],"
    ++ codes "\"services\":[{\"name\":\"v\",\"script\":[],\"topic\":7}],"
    ++ codes "\"clients\":[{\"name\":\"c\",\"service\":\"v\",\"action\":{}}],"
    ++ codes "\"actions\":[{\"name\":\"a\",\"result_timeout\":5,\"on_goal\":[[\"decide\",2]],\"on_result\":true}],"
    ++ codes "\"action_clients\":[{\"name\":\"k\",\"action\":\"a\",\"on_result\":[],\"script\":1}]}],"
    ++ codes "\"moments\":[1],\"feed\":[{\"round\":1,\"topic\":\"x\",\"value\":-3,\"action\":[],\"stamp\":4},"
    ++ codes "{\"round\":1,\"action\":\"a\",\"goal\":\"00000000-0000-0000-0000-00000000000A\",\"value\":5,\"stamp\":null},"
    ++ codes "{\"round\":1,\"action\":\"a\",\"cancel\":\"00000000-0000-0000-0000-000000000000\",\"stamp\":6,\"value\":\"\"}]}"

abbrev pub all_objects_upgraded : List ℕ
all_objects_upgraded =
    codes "{\"feed\":[{\"round\":1,\"topic\":\"x\",\"value\":-3},"
    ++ codes "{\"action\":\"a\",\"goal\":\"00000000-0000-0000-0000-00000000000A\",\"round\":1,\"value\":5},"
    ++ codes "{\"action\":\"a\",\"cancel\":\"00000000-0000-0000-0000-000000000000\",\"round\":1,\"stamp\":6}],\"moments\":[1],"
    ++ codes "\"nodes\":[{\"action_clients\":[{\"action\":\"a\",\"name\":\"k\",\"on_result\":[]}],"
    ++ codes "\"actions\":[{\"name\":\"a\",\"on_goal\":[[\"decide\",2]],\"result_timeout\":5}],"
    ++ codes "\"clients\":[{\"name\":\"c\",\"service\":\"v\"}],"
    ++ codes "\"groups\":[{\"kind\":\"reentrant\",\"name\":\"g\"}],\"name\":\"n\","
    ++ codes "\"services\":[{\"name\":\"v\",\"script\":[]}],"
    ++ codes "\"subscriptions\":[{\"depth\":2,\"name\":\"s\",\"topic\":\"x\"}],"
    ++ codes "\"timers\":[{\"group\":\"g\",\"name\":\"t\",\"period\":1}]}],"
    ++ codes "\"order\":\"arrival\",\"topics\":[\"x\"],\"version\":2}"
