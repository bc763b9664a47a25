-- Worked cases: limits.
use Rattle.std.specs.Prelude.{ℕ, List, [], ◌∷◌, ◌++◌, codes}

-- cases/limits/256_groups.json
abbrev pub limits_256_groups_document : List ℕ
limits_256_groups_document =
    codes "{\"version\":1,\"nodes\":[{\"name\":\"n\",\"groups\":[{\"name\":\"g0\",\"kind\":\"reentrant\"},{\"name\":\"g1\",\"kind\":\"re" ++
    codes "entrant\"},{\"name\":\"g2\",\"kind\":\"reentrant\"},{\"name\":\"g3\",\"kind\":\"reentrant\"},{\"name\":\"g4\",\"kind\":\"ree" ++
    codes "ntrant\"},{\"name\":\"g5\",\"kind\":\"reentrant\"},{\"name\":\"g6\",\"kind\":\"reentrant\"},{\"name\":\"g7\",\"kind\":\"reen" ++
    codes "trant\"},{\"name\":\"g8\",\"kind\":\"reentrant\"},{\"name\":\"g9\",\"kind\":\"reentrant\"},{\"name\":\"g10\",\"kind\":\"reen" ++
    codes "trant\"},{\"name\":\"g11\",\"kind\":\"reentrant\"},{\"name\":\"g12\",\"kind\":\"reentrant\"},{\"name\":\"g13\",\"kind\":\"re" ++
    codes "entrant\"},{\"name\":\"g14\",\"kind\":\"reentrant\"},{\"name\":\"g15\",\"kind\":\"reentrant\"},{\"name\":\"g16\",\"kind\":\"" ++
    codes "reentrant\"},{\"name\":\"g17\",\"kind\":\"reentrant\"},{\"name\":\"g18\",\"kind\":\"reentrant\"},{\"name\":\"g19\",\"kind\"" ++
    codes ":\"reentrant\"},{\"name\":\"g20\",\"kind\":\"reentrant\"},{\"name\":\"g21\",\"kind\":\"reentrant\"},{\"name\":\"g22\",\"kin" ++
    codes "d\":\"reentrant\"},{\"name\":\"g23\",\"kind\":\"reentrant\"},{\"name\":\"g24\",\"kind\":\"reentrant\"},{\"name\":\"g25\",\"k" ++
    codes "ind\":\"reentrant\"},{\"name\":\"g26\",\"kind\":\"reentrant\"},{\"name\":\"g27\",\"kind\":\"reentrant\"},{\"name\":\"g28\"," ++
    codes "\"kind\":\"reentrant\"},{\"name\":\"g29\",\"kind\":\"reentrant\"},{\"name\":\"g30\",\"kind\":\"reentrant\"},{\"name\":\"g31" ++
    codes "\",\"kind\":\"reentrant\"},{\"name\":\"g32\",\"kind\":\"reentrant\"},{\"name\":\"g33\",\"kind\":\"reentrant\"},{\"name\":\"g" ++
    codes "34\",\"kind\":\"reentrant\"},{\"name\":\"g35\",\"kind\":\"reentrant\"},{\"name\":\"g36\",\"kind\":\"reentrant\"},{\"name\":" ++
    codes "\"g37\",\"kind\":\"reentrant\"},{\"name\":\"g38\",\"kind\":\"reentrant\"},{\"name\":\"g39\",\"kind\":\"reentrant\"},{\"name" ++
    codes "\":\"g40\",\"kind\":\"reentrant\"},{\"name\":\"g41\",\"kind\":\"reentrant\"},{\"name\":\"g42\",\"kind\":\"reentrant\"},{\"na" ++
    codes "me\":\"g43\",\"kind\":\"reentrant\"},{\"name\":\"g44\",\"kind\":\"reentrant\"},{\"name\":\"g45\",\"kind\":\"reentrant\"},{\"" ++
    codes "name\":\"g46\",\"kind\":\"reentrant\"},{\"name\":\"g47\",\"kind\":\"reentrant\"},{\"name\":\"g48\",\"kind\":\"reentrant\"}," ++
    codes "{\"name\":\"g49\",\"kind\":\"reentrant\"},{\"name\":\"g50\",\"kind\":\"reentrant\"},{\"name\":\"g51\",\"kind\":\"reentrant\"" ++
    codes "},{\"name\":\"g52\",\"kind\":\"reentrant\"},{\"name\":\"g53\",\"kind\":\"reentrant\"},{\"name\":\"g54\",\"kind\":\"reentran" ++
    codes "t\"},{\"name\":\"g55\",\"kind\":\"reentrant\"},{\"name\":\"g56\",\"kind\":\"reentrant\"},{\"name\":\"g57\",\"kind\":\"reentr" ++
    codes "ant\"},{\"name\":\"g58\",\"kind\":\"reentrant\"},{\"name\":\"g59\",\"kind\":\"reentrant\"},{\"name\":\"g60\",\"kind\":\"reen" ++
    codes "trant\"},{\"name\":\"g61\",\"kind\":\"reentrant\"},{\"name\":\"g62\",\"kind\":\"reentrant\"},{\"name\":\"g63\",\"kind\":\"re" ++
    codes "entrant\"},{\"name\":\"g64\",\"kind\":\"reentrant\"},{\"name\":\"g65\",\"kind\":\"reentrant\"},{\"name\":\"g66\",\"kind\":\"" ++
    codes "reentrant\"},{\"name\":\"g67\",\"kind\":\"reentrant\"},{\"name\":\"g68\",\"kind\":\"reentrant\"},{\"name\":\"g69\",\"kind\"" ++
    codes ":\"reentrant\"},{\"name\":\"g70\",\"kind\":\"reentrant\"},{\"name\":\"g71\",\"kind\":\"reentrant\"},{\"name\":\"g72\",\"kin" ++
    codes "d\":\"reentrant\"},{\"name\":\"g73\",\"kind\":\"reentrant\"},{\"name\":\"g74\",\"kind\":\"reentrant\"},{\"name\":\"g75\",\"k" ++
    codes "ind\":\"reentrant\"},{\"name\":\"g76\",\"kind\":\"reentrant\"},{\"name\":\"g77\",\"kind\":\"reentrant\"},{\"name\":\"g78\"," ++
    codes "\"kind\":\"reentrant\"},{\"name\":\"g79\",\"kind\":\"reentrant\"},{\"name\":\"g80\",\"kind\":\"reentrant\"},{\"name\":\"g81" ++
    codes "\",\"kind\":\"reentrant\"},{\"name\":\"g82\",\"kind\":\"reentrant\"},{\"name\":\"g83\",\"kind\":\"reentrant\"},{\"name\":\"g" ++
    codes "84\",\"kind\":\"reentrant\"},{\"name\":\"g85\",\"kind\":\"reentrant\"},{\"name\":\"g86\",\"kind\":\"reentrant\"},{\"name\":" ++
    codes "\"g87\",\"kind\":\"reentrant\"},{\"name\":\"g88\",\"kind\":\"reentrant\"},{\"name\":\"g89\",\"kind\":\"reentrant\"},{\"name" ++
    codes "\":\"g90\",\"kind\":\"reentrant\"},{\"name\":\"g91\",\"kind\":\"reentrant\"},{\"name\":\"g92\",\"kind\":\"reentrant\"},{\"na" ++
    codes "me\":\"g93\",\"kind\":\"reentrant\"},{\"name\":\"g94\",\"kind\":\"reentrant\"},{\"name\":\"g95\",\"kind\":\"reentrant\"},{\"" ++
    codes "name\":\"g96\",\"kind\":\"reentrant\"},{\"name\":\"g97\",\"kind\":\"reentrant\"},{\"name\":\"g98\",\"kind\":\"reentrant\"}," ++
    codes "{\"name\":\"g99\",\"kind\":\"reentrant\"},{\"name\":\"g100\",\"kind\":\"reentrant\"},{\"name\":\"g101\",\"kind\":\"reentran" ++
    codes "t\"},{\"name\":\"g102\",\"kind\":\"reentrant\"},{\"name\":\"g103\",\"kind\":\"reentrant\"},{\"name\":\"g104\",\"kind\":\"ree" ++
    codes "ntrant\"},{\"name\":\"g105\",\"kind\":\"reentrant\"},{\"name\":\"g106\",\"kind\":\"reentrant\"},{\"name\":\"g107\",\"kind\"" ++
    codes ":\"reentrant\"},{\"name\":\"g108\",\"kind\":\"reentrant\"},{\"name\":\"g109\",\"kind\":\"reentrant\"},{\"name\":\"g110\",\"" ++
    codes "kind\":\"reentrant\"},{\"name\":\"g111\",\"kind\":\"reentrant\"},{\"name\":\"g112\",\"kind\":\"reentrant\"},{\"name\":\"g1" ++
    codes "13\",\"kind\":\"reentrant\"},{\"name\":\"g114\",\"kind\":\"reentrant\"},{\"name\":\"g115\",\"kind\":\"reentrant\"},{\"name" ++
    codes "\":\"g116\",\"kind\":\"reentrant\"},{\"name\":\"g117\",\"kind\":\"reentrant\"},{\"name\":\"g118\",\"kind\":\"reentrant\"},{" ++
    codes "\"name\":\"g119\",\"kind\":\"reentrant\"},{\"name\":\"g120\",\"kind\":\"reentrant\"},{\"name\":\"g121\",\"kind\":\"reentran" ++
    codes "t\"},{\"name\":\"g122\",\"kind\":\"reentrant\"},{\"name\":\"g123\",\"kind\":\"reentrant\"},{\"name\":\"g124\",\"kind\":\"ree" ++
    codes "ntrant\"},{\"name\":\"g125\",\"kind\":\"reentrant\"},{\"name\":\"g126\",\"kind\":\"reentrant\"},{\"name\":\"g127\",\"kind\"" ++
    codes ":\"reentrant\"},{\"name\":\"g128\",\"kind\":\"reentrant\"},{\"name\":\"g129\",\"kind\":\"reentrant\"},{\"name\":\"g130\",\"" ++
    codes "kind\":\"reentrant\"},{\"name\":\"g131\",\"kind\":\"reentrant\"},{\"name\":\"g132\",\"kind\":\"reentrant\"},{\"name\":\"g1" ++
    codes "33\",\"kind\":\"reentrant\"},{\"name\":\"g134\",\"kind\":\"reentrant\"},{\"name\":\"g135\",\"kind\":\"reentrant\"},{\"name" ++
    codes "\":\"g136\",\"kind\":\"reentrant\"},{\"name\":\"g137\",\"kind\":\"reentrant\"},{\"name\":\"g138\",\"kind\":\"reentrant\"},{" ++
    codes "\"name\":\"g139\",\"kind\":\"reentrant\"},{\"name\":\"g140\",\"kind\":\"reentrant\"},{\"name\":\"g141\",\"kind\":\"reentran" ++
    codes "t\"},{\"name\":\"g142\",\"kind\":\"reentrant\"},{\"name\":\"g143\",\"kind\":\"reentrant\"},{\"name\":\"g144\",\"kind\":\"ree" ++
    codes "ntrant\"},{\"name\":\"g145\",\"kind\":\"reentrant\"},{\"name\":\"g146\",\"kind\":\"reentrant\"},{\"name\":\"g147\",\"kind\"" ++
    codes ":\"reentrant\"},{\"name\":\"g148\",\"kind\":\"reentrant\"},{\"name\":\"g149\",\"kind\":\"reentrant\"},{\"name\":\"g150\",\"" ++
    codes "kind\":\"reentrant\"},{\"name\":\"g151\",\"kind\":\"reentrant\"},{\"name\":\"g152\",\"kind\":\"reentrant\"},{\"name\":\"g1" ++
    codes "53\",\"kind\":\"reentrant\"},{\"name\":\"g154\",\"kind\":\"reentrant\"},{\"name\":\"g155\",\"kind\":\"reentrant\"},{\"name" ++
    codes "\":\"g156\",\"kind\":\"reentrant\"},{\"name\":\"g157\",\"kind\":\"reentrant\"},{\"name\":\"g158\",\"kind\":\"reentrant\"},{" ++
    codes "\"name\":\"g159\",\"kind\":\"reentrant\"},{\"name\":\"g160\",\"kind\":\"reentrant\"},{\"name\":\"g161\",\"kind\":\"reentran" ++
    codes "t\"},{\"name\":\"g162\",\"kind\":\"reentrant\"},{\"name\":\"g163\",\"kind\":\"reentrant\"},{\"name\":\"g164\",\"kind\":\"ree" ++
    codes "ntrant\"},{\"name\":\"g165\",\"kind\":\"reentrant\"},{\"name\":\"g166\",\"kind\":\"reentrant\"},{\"name\":\"g167\",\"kind\"" ++
    codes ":\"reentrant\"},{\"name\":\"g168\",\"kind\":\"reentrant\"},{\"name\":\"g169\",\"kind\":\"reentrant\"},{\"name\":\"g170\",\"" ++
    codes "kind\":\"reentrant\"},{\"name\":\"g171\",\"kind\":\"reentrant\"},{\"name\":\"g172\",\"kind\":\"reentrant\"},{\"name\":\"g1" ++
    codes "73\",\"kind\":\"reentrant\"},{\"name\":\"g174\",\"kind\":\"reentrant\"},{\"name\":\"g175\",\"kind\":\"reentrant\"},{\"name" ++
    codes "\":\"g176\",\"kind\":\"reentrant\"},{\"name\":\"g177\",\"kind\":\"reentrant\"},{\"name\":\"g178\",\"kind\":\"reentrant\"},{" ++
    codes "\"name\":\"g179\",\"kind\":\"reentrant\"},{\"name\":\"g180\",\"kind\":\"reentrant\"},{\"name\":\"g181\",\"kind\":\"reentran" ++
    codes "t\"},{\"name\":\"g182\",\"kind\":\"reentrant\"},{\"name\":\"g183\",\"kind\":\"reentrant\"},{\"name\":\"g184\",\"kind\":\"ree" ++
    codes "ntrant\"},{\"name\":\"g185\",\"kind\":\"reentrant\"},{\"name\":\"g186\",\"kind\":\"reentrant\"},{\"name\":\"g187\",\"kind\"" ++
    codes ":\"reentrant\"},{\"name\":\"g188\",\"kind\":\"reentrant\"},{\"name\":\"g189\",\"kind\":\"reentrant\"},{\"name\":\"g190\",\"" ++
    codes "kind\":\"reentrant\"},{\"name\":\"g191\",\"kind\":\"reentrant\"},{\"name\":\"g192\",\"kind\":\"reentrant\"},{\"name\":\"g1" ++
    codes "93\",\"kind\":\"reentrant\"},{\"name\":\"g194\",\"kind\":\"reentrant\"},{\"name\":\"g195\",\"kind\":\"reentrant\"},{\"name" ++
    codes "\":\"g196\",\"kind\":\"reentrant\"},{\"name\":\"g197\",\"kind\":\"reentrant\"},{\"name\":\"g198\",\"kind\":\"reentrant\"},{" ++
    codes "\"name\":\"g199\",\"kind\":\"reentrant\"},{\"name\":\"g200\",\"kind\":\"reentrant\"},{\"name\":\"g201\",\"kind\":\"reentran" ++
    codes "t\"},{\"name\":\"g202\",\"kind\":\"reentrant\"},{\"name\":\"g203\",\"kind\":\"reentrant\"},{\"name\":\"g204\",\"kind\":\"ree" ++
    codes "ntrant\"},{\"name\":\"g205\",\"kind\":\"reentrant\"},{\"name\":\"g206\",\"kind\":\"reentrant\"},{\"name\":\"g207\",\"kind\"" ++
    codes ":\"reentrant\"},{\"name\":\"g208\",\"kind\":\"reentrant\"},{\"name\":\"g209\",\"kind\":\"reentrant\"},{\"name\":\"g210\",\"" ++
    codes "kind\":\"reentrant\"},{\"name\":\"g211\",\"kind\":\"reentrant\"},{\"name\":\"g212\",\"kind\":\"reentrant\"},{\"name\":\"g2" ++
    codes "13\",\"kind\":\"reentrant\"},{\"name\":\"g214\",\"kind\":\"reentrant\"},{\"name\":\"g215\",\"kind\":\"reentrant\"},{\"name" ++
    codes "\":\"g216\",\"kind\":\"reentrant\"},{\"name\":\"g217\",\"kind\":\"reentrant\"},{\"name\":\"g218\",\"kind\":\"reentrant\"},{" ++
    codes "\"name\":\"g219\",\"kind\":\"reentrant\"},{\"name\":\"g220\",\"kind\":\"reentrant\"},{\"name\":\"g221\",\"kind\":\"reentran" ++
    codes "t\"},{\"name\":\"g222\",\"kind\":\"reentrant\"},{\"name\":\"g223\",\"kind\":\"reentrant\"},{\"name\":\"g224\",\"kind\":\"ree" ++
    codes "ntrant\"},{\"name\":\"g225\",\"kind\":\"reentrant\"},{\"name\":\"g226\",\"kind\":\"reentrant\"},{\"name\":\"g227\",\"kind\"" ++
    codes ":\"reentrant\"},{\"name\":\"g228\",\"kind\":\"reentrant\"},{\"name\":\"g229\",\"kind\":\"reentrant\"},{\"name\":\"g230\",\"" ++
    codes "kind\":\"reentrant\"},{\"name\":\"g231\",\"kind\":\"reentrant\"},{\"name\":\"g232\",\"kind\":\"reentrant\"},{\"name\":\"g2" ++
    codes "33\",\"kind\":\"reentrant\"},{\"name\":\"g234\",\"kind\":\"reentrant\"},{\"name\":\"g235\",\"kind\":\"reentrant\"},{\"name" ++
    codes "\":\"g236\",\"kind\":\"reentrant\"},{\"name\":\"g237\",\"kind\":\"reentrant\"},{\"name\":\"g238\",\"kind\":\"reentrant\"},{" ++
    codes "\"name\":\"g239\",\"kind\":\"reentrant\"},{\"name\":\"g240\",\"kind\":\"reentrant\"},{\"name\":\"g241\",\"kind\":\"reentran" ++
    codes "t\"},{\"name\":\"g242\",\"kind\":\"reentrant\"},{\"name\":\"g243\",\"kind\":\"reentrant\"},{\"name\":\"g244\",\"kind\":\"ree" ++
    codes "ntrant\"},{\"name\":\"g245\",\"kind\":\"reentrant\"},{\"name\":\"g246\",\"kind\":\"reentrant\"},{\"name\":\"g247\",\"kind\"" ++
    codes ":\"reentrant\"},{\"name\":\"g248\",\"kind\":\"reentrant\"},{\"name\":\"g249\",\"kind\":\"reentrant\"},{\"name\":\"g250\",\"" ++
    codes "kind\":\"reentrant\"},{\"name\":\"g251\",\"kind\":\"reentrant\"},{\"name\":\"g252\",\"kind\":\"reentrant\"},{\"name\":\"g2" ++
    codes "53\",\"kind\":\"reentrant\"},{\"name\":\"g254\",\"kind\":\"reentrant\"},{\"name\":\"g255\",\"kind\":\"reentrant\"}]}]}" ++ 10 ∷
    []

abbrev pub limits_256_groups_transcript : List ℕ
limits_256_groups_transcript =
    codes "end 0" ++ 10 ∷
    []

-- cases/limits/256_instructions.json
abbrev pub limits_256_instructions_document : List ℕ
limits_256_instructions_document =
    codes "{\"version\":1,\"nodes\":[{\"name\":\"n\",\"timers\":[{\"name\":\"t\",\"period\":1,\"script\":[[\"log\",0],[\"log\",1],[\"l" ++
    codes "og\",2],[\"log\",3],[\"log\",4],[\"log\",5],[\"log\",6],[\"log\",7],[\"log\",8],[\"log\",9],[\"log\",10],[\"log\",11],[" ++
    codes "\"log\",12],[\"log\",13],[\"log\",14],[\"log\",15],[\"log\",16],[\"log\",17],[\"log\",18],[\"log\",19],[\"log\",20],[\"" ++
    codes "log\",21],[\"log\",22],[\"log\",23],[\"log\",24],[\"log\",25],[\"log\",26],[\"log\",27],[\"log\",28],[\"log\",29],[\"l" ++
    codes "og\",30],[\"log\",31],[\"log\",32],[\"log\",33],[\"log\",34],[\"log\",35],[\"log\",36],[\"log\",37],[\"log\",38],[\"lo" ++
    codes "g\",39],[\"log\",40],[\"log\",41],[\"log\",42],[\"log\",43],[\"log\",44],[\"log\",45],[\"log\",46],[\"log\",47],[\"log" ++
    codes "\",48],[\"log\",49],[\"log\",50],[\"log\",51],[\"log\",52],[\"log\",53],[\"log\",54],[\"log\",55],[\"log\",56],[\"log\"" ++
    codes ",57],[\"log\",58],[\"log\",59],[\"log\",60],[\"log\",61],[\"log\",62],[\"log\",63],[\"log\",64],[\"log\",65],[\"log\"," ++
    codes "66],[\"log\",67],[\"log\",68],[\"log\",69],[\"log\",70],[\"log\",71],[\"log\",72],[\"log\",73],[\"log\",74],[\"log\",7" ++
    codes "5],[\"log\",76],[\"log\",77],[\"log\",78],[\"log\",79],[\"log\",80],[\"log\",81],[\"log\",82],[\"log\",83],[\"log\",84" ++
    codes "],[\"log\",85],[\"log\",86],[\"log\",87],[\"log\",88],[\"log\",89],[\"log\",90],[\"log\",91],[\"log\",92],[\"log\",93]" ++
    codes ",[\"log\",94],[\"log\",95],[\"log\",96],[\"log\",97],[\"log\",98],[\"log\",99],[\"log\",100],[\"log\",101],[\"log\",10" ++
    codes "2],[\"log\",103],[\"log\",104],[\"log\",105],[\"log\",106],[\"log\",107],[\"log\",108],[\"log\",109],[\"log\",110],[" ++
    codes "\"log\",111],[\"log\",112],[\"log\",113],[\"log\",114],[\"log\",115],[\"log\",116],[\"log\",117],[\"log\",118],[\"log" ++
    codes "\",119],[\"log\",120],[\"log\",121],[\"log\",122],[\"log\",123],[\"log\",124],[\"log\",125],[\"log\",126],[\"log\",12" ++
    codes "7],[\"log\",128],[\"log\",129],[\"log\",130],[\"log\",131],[\"log\",132],[\"log\",133],[\"log\",134],[\"log\",135],[" ++
    codes "\"log\",136],[\"log\",137],[\"log\",138],[\"log\",139],[\"log\",140],[\"log\",141],[\"log\",142],[\"log\",143],[\"log" ++
    codes "\",144],[\"log\",145],[\"log\",146],[\"log\",147],[\"log\",148],[\"log\",149],[\"log\",150],[\"log\",151],[\"log\",15" ++
    codes "2],[\"log\",153],[\"log\",154],[\"log\",155],[\"log\",156],[\"log\",157],[\"log\",158],[\"log\",159],[\"log\",160],[" ++
    codes "\"log\",161],[\"log\",162],[\"log\",163],[\"log\",164],[\"log\",165],[\"log\",166],[\"log\",167],[\"log\",168],[\"log" ++
    codes "\",169],[\"log\",170],[\"log\",171],[\"log\",172],[\"log\",173],[\"log\",174],[\"log\",175],[\"log\",176],[\"log\",17" ++
    codes "7],[\"log\",178],[\"log\",179],[\"log\",180],[\"log\",181],[\"log\",182],[\"log\",183],[\"log\",184],[\"log\",185],[" ++
    codes "\"log\",186],[\"log\",187],[\"log\",188],[\"log\",189],[\"log\",190],[\"log\",191],[\"log\",192],[\"log\",193],[\"log" ++
    codes "\",194],[\"log\",195],[\"log\",196],[\"log\",197],[\"log\",198],[\"log\",199],[\"log\",200],[\"log\",201],[\"log\",20" ++
    codes "2],[\"log\",203],[\"log\",204],[\"log\",205],[\"log\",206],[\"log\",207],[\"log\",208],[\"log\",209],[\"log\",210],[" ++
    codes "\"log\",211],[\"log\",212],[\"log\",213],[\"log\",214],[\"log\",215],[\"log\",216],[\"log\",217],[\"log\",218],[\"log" ++
    codes "\",219],[\"log\",220],[\"log\",221],[\"log\",222],[\"log\",223],[\"log\",224],[\"log\",225],[\"log\",226],[\"log\",22" ++
    codes "7],[\"log\",228],[\"log\",229],[\"log\",230],[\"log\",231],[\"log\",232],[\"log\",233],[\"log\",234],[\"log\",235],[" ++
    codes "\"log\",236],[\"log\",237],[\"log\",238],[\"log\",239],[\"log\",240],[\"log\",241],[\"log\",242],[\"log\",243],[\"log" ++
    codes "\",244],[\"log\",245],[\"log\",246],[\"log\",247],[\"log\",248],[\"log\",249],[\"log\",250],[\"log\",251],[\"log\",25" ++
    codes "2],[\"log\",253],[\"log\",254],[\"log\",255]]}]}]}" ++ 10 ∷
    []

abbrev pub limits_256_instructions_transcript : List ℕ
limits_256_instructions_transcript =
    codes "end 0" ++ 10 ∷
    []

-- cases/limits/256_topics.json
abbrev pub limits_256_topics_document : List ℕ
limits_256_topics_document =
    codes "{\"version\":1,\"topics\":[\"x0\",\"x1\",\"x2\",\"x3\",\"x4\",\"x5\",\"x6\",\"x7\",\"x8\",\"x9\",\"x10\",\"x11\",\"x12\",\"x13\",\"x1" ++
    codes "4\",\"x15\",\"x16\",\"x17\",\"x18\",\"x19\",\"x20\",\"x21\",\"x22\",\"x23\",\"x24\",\"x25\",\"x26\",\"x27\",\"x28\",\"x29\",\"x30\",\"" ++
    codes "x31\",\"x32\",\"x33\",\"x34\",\"x35\",\"x36\",\"x37\",\"x38\",\"x39\",\"x40\",\"x41\",\"x42\",\"x43\",\"x44\",\"x45\",\"x46\",\"x47\"" ++
    codes ",\"x48\",\"x49\",\"x50\",\"x51\",\"x52\",\"x53\",\"x54\",\"x55\",\"x56\",\"x57\",\"x58\",\"x59\",\"x60\",\"x61\",\"x62\",\"x63\",\"x6" ++
    codes "4\",\"x65\",\"x66\",\"x67\",\"x68\",\"x69\",\"x70\",\"x71\",\"x72\",\"x73\",\"x74\",\"x75\",\"x76\",\"x77\",\"x78\",\"x79\",\"x80\",\"" ++
    codes "x81\",\"x82\",\"x83\",\"x84\",\"x85\",\"x86\",\"x87\",\"x88\",\"x89\",\"x90\",\"x91\",\"x92\",\"x93\",\"x94\",\"x95\",\"x96\",\"x97\"" ++
    codes ",\"x98\",\"x99\",\"x100\",\"x101\",\"x102\",\"x103\",\"x104\",\"x105\",\"x106\",\"x107\",\"x108\",\"x109\",\"x110\",\"x111\",\"x1" ++
    codes "12\",\"x113\",\"x114\",\"x115\",\"x116\",\"x117\",\"x118\",\"x119\",\"x120\",\"x121\",\"x122\",\"x123\",\"x124\",\"x125\",\"x126" ++
    codes "\",\"x127\",\"x128\",\"x129\",\"x130\",\"x131\",\"x132\",\"x133\",\"x134\",\"x135\",\"x136\",\"x137\",\"x138\",\"x139\",\"x140\"," ++
    codes "\"x141\",\"x142\",\"x143\",\"x144\",\"x145\",\"x146\",\"x147\",\"x148\",\"x149\",\"x150\",\"x151\",\"x152\",\"x153\",\"x154\",\"x" ++
    codes "155\",\"x156\",\"x157\",\"x158\",\"x159\",\"x160\",\"x161\",\"x162\",\"x163\",\"x164\",\"x165\",\"x166\",\"x167\",\"x168\",\"x16" ++
    codes "9\",\"x170\",\"x171\",\"x172\",\"x173\",\"x174\",\"x175\",\"x176\",\"x177\",\"x178\",\"x179\",\"x180\",\"x181\",\"x182\",\"x183\"" ++
    codes ",\"x184\",\"x185\",\"x186\",\"x187\",\"x188\",\"x189\",\"x190\",\"x191\",\"x192\",\"x193\",\"x194\",\"x195\",\"x196\",\"x197\",\"" ++
    codes "x198\",\"x199\",\"x200\",\"x201\",\"x202\",\"x203\",\"x204\",\"x205\",\"x206\",\"x207\",\"x208\",\"x209\",\"x210\",\"x211\",\"x2" ++
    codes "12\",\"x213\",\"x214\",\"x215\",\"x216\",\"x217\",\"x218\",\"x219\",\"x220\",\"x221\",\"x222\",\"x223\",\"x224\",\"x225\",\"x226" ++
    codes "\",\"x227\",\"x228\",\"x229\",\"x230\",\"x231\",\"x232\",\"x233\",\"x234\",\"x235\",\"x236\",\"x237\",\"x238\",\"x239\",\"x240\"," ++
    codes "\"x241\",\"x242\",\"x243\",\"x244\",\"x245\",\"x246\",\"x247\",\"x248\",\"x249\",\"x250\",\"x251\",\"x252\",\"x253\",\"x254\",\"x" ++
    codes "255\"],\"nodes\":[{\"name\":\"n\",\"timers\":[{\"name\":\"t\",\"period\":1,\"script\":[[\"pub\",\"x0\",1],[\"pub\",\"x255\",2" ++
    codes "]]}],\"subscriptions\":[{\"name\":\"s\",\"topic\":\"x255\",\"script\":[[\"log\",\"in\"]]}]}],\"moments\":[1,1]}" ++ 10 ∷
    []

abbrev pub limits_256_topics_transcript : List ℕ
limits_256_topics_transcript =
    codes "round 1 1" ++ 10 ∷
    codes "run t timer 1 0" ++ 10 ∷
    codes "pub x0 1" ++ 10 ∷
    codes "pub x255 2" ++ 10 ∷
    codes "round 2 1" ++ 10 ∷
    codes "run s message 2 0" ++ 10 ∷
    codes "log s 2" ++ 10 ∷
    codes "end 2" ++ 10 ∷
    []

-- cases/limits/257_empty_instructions.json
abbrev pub limits_257_empty_instructions_document : List ℕ
limits_257_empty_instructions_document =
    codes "{\"version\":1,\"nodes\":[{\"name\":\"n\",\"timers\":[{\"name\":\"t\",\"period\":1,\"script\":[[],[],[],[],[],[],[],[]" ++
    codes ",[],[],[],[],[],[],[],[],[],[],[],[],[],[],[],[],[],[],[],[],[],[],[],[],[],[],[],[],[],[],[],[],[]," ++
    codes "[],[],[],[],[],[],[],[],[],[],[],[],[],[],[],[],[],[],[],[],[],[],[],[],[],[],[],[],[],[],[],[],[],[" ++
    codes "],[],[],[],[],[],[],[],[],[],[],[],[],[],[],[],[],[],[],[],[],[],[],[],[],[],[],[],[],[],[],[],[],[]" ++
    codes ",[],[],[],[],[],[],[],[],[],[],[],[],[],[],[],[],[],[],[],[],[],[],[],[],[],[],[],[],[],[],[],[],[]," ++
    codes "[],[],[],[],[],[],[],[],[],[],[],[],[],[],[],[],[],[],[],[],[],[],[],[],[],[],[],[],[],[],[],[],[],[" ++
    codes "],[],[],[],[],[],[],[],[],[],[],[],[],[],[],[],[],[],[],[],[],[],[],[],[],[],[],[],[],[],[],[],[],[]" ++
    codes ",[],[],[],[],[],[],[],[],[],[],[],[],[],[],[],[],[],[],[],[],[],[],[],[],[],[],[],[],[],[],[],[],[]," ++
    codes "[],[],[],[],[],[],[],[],[],[],[],[],[],[],[],[]]}]}]}" ++ 10 ∷
    []

-- cases/limits/257_groups.json
abbrev pub limits_257_groups_document : List ℕ
limits_257_groups_document =
    codes "{\"version\":1,\"nodes\":[{\"name\":\"n\",\"groups\":[{\"name\":\"g0\",\"kind\":\"reentrant\"},{\"name\":\"g1\",\"kind\":\"re" ++
    codes "entrant\"},{\"name\":\"g2\",\"kind\":\"reentrant\"},{\"name\":\"g3\",\"kind\":\"reentrant\"},{\"name\":\"g4\",\"kind\":\"ree" ++
    codes "ntrant\"},{\"name\":\"g5\",\"kind\":\"reentrant\"},{\"name\":\"g6\",\"kind\":\"reentrant\"},{\"name\":\"g7\",\"kind\":\"reen" ++
    codes "trant\"},{\"name\":\"g8\",\"kind\":\"reentrant\"},{\"name\":\"g9\",\"kind\":\"reentrant\"},{\"name\":\"g10\",\"kind\":\"reen" ++
    codes "trant\"},{\"name\":\"g11\",\"kind\":\"reentrant\"},{\"name\":\"g12\",\"kind\":\"reentrant\"},{\"name\":\"g13\",\"kind\":\"re" ++
    codes "entrant\"},{\"name\":\"g14\",\"kind\":\"reentrant\"},{\"name\":\"g15\",\"kind\":\"reentrant\"},{\"name\":\"g16\",\"kind\":\"" ++
    codes "reentrant\"},{\"name\":\"g17\",\"kind\":\"reentrant\"},{\"name\":\"g18\",\"kind\":\"reentrant\"},{\"name\":\"g19\",\"kind\"" ++
    codes ":\"reentrant\"},{\"name\":\"g20\",\"kind\":\"reentrant\"},{\"name\":\"g21\",\"kind\":\"reentrant\"},{\"name\":\"g22\",\"kin" ++
    codes "d\":\"reentrant\"},{\"name\":\"g23\",\"kind\":\"reentrant\"},{\"name\":\"g24\",\"kind\":\"reentrant\"},{\"name\":\"g25\",\"k" ++
    codes "ind\":\"reentrant\"},{\"name\":\"g26\",\"kind\":\"reentrant\"},{\"name\":\"g27\",\"kind\":\"reentrant\"},{\"name\":\"g28\"," ++
    codes "\"kind\":\"reentrant\"},{\"name\":\"g29\",\"kind\":\"reentrant\"},{\"name\":\"g30\",\"kind\":\"reentrant\"},{\"name\":\"g31" ++
    codes "\",\"kind\":\"reentrant\"},{\"name\":\"g32\",\"kind\":\"reentrant\"},{\"name\":\"g33\",\"kind\":\"reentrant\"},{\"name\":\"g" ++
    codes "34\",\"kind\":\"reentrant\"},{\"name\":\"g35\",\"kind\":\"reentrant\"},{\"name\":\"g36\",\"kind\":\"reentrant\"},{\"name\":" ++
    codes "\"g37\",\"kind\":\"reentrant\"},{\"name\":\"g38\",\"kind\":\"reentrant\"},{\"name\":\"g39\",\"kind\":\"reentrant\"},{\"name" ++
    codes "\":\"g40\",\"kind\":\"reentrant\"},{\"name\":\"g41\",\"kind\":\"reentrant\"},{\"name\":\"g42\",\"kind\":\"reentrant\"},{\"na" ++
    codes "me\":\"g43\",\"kind\":\"reentrant\"},{\"name\":\"g44\",\"kind\":\"reentrant\"},{\"name\":\"g45\",\"kind\":\"reentrant\"},{\"" ++
    codes "name\":\"g46\",\"kind\":\"reentrant\"},{\"name\":\"g47\",\"kind\":\"reentrant\"},{\"name\":\"g48\",\"kind\":\"reentrant\"}," ++
    codes "{\"name\":\"g49\",\"kind\":\"reentrant\"},{\"name\":\"g50\",\"kind\":\"reentrant\"},{\"name\":\"g51\",\"kind\":\"reentrant\"" ++
    codes "},{\"name\":\"g52\",\"kind\":\"reentrant\"},{\"name\":\"g53\",\"kind\":\"reentrant\"},{\"name\":\"g54\",\"kind\":\"reentran" ++
    codes "t\"},{\"name\":\"g55\",\"kind\":\"reentrant\"},{\"name\":\"g56\",\"kind\":\"reentrant\"},{\"name\":\"g57\",\"kind\":\"reentr" ++
    codes "ant\"},{\"name\":\"g58\",\"kind\":\"reentrant\"},{\"name\":\"g59\",\"kind\":\"reentrant\"},{\"name\":\"g60\",\"kind\":\"reen" ++
    codes "trant\"},{\"name\":\"g61\",\"kind\":\"reentrant\"},{\"name\":\"g62\",\"kind\":\"reentrant\"},{\"name\":\"g63\",\"kind\":\"re" ++
    codes "entrant\"},{\"name\":\"g64\",\"kind\":\"reentrant\"},{\"name\":\"g65\",\"kind\":\"reentrant\"},{\"name\":\"g66\",\"kind\":\"" ++
    codes "reentrant\"},{\"name\":\"g67\",\"kind\":\"reentrant\"},{\"name\":\"g68\",\"kind\":\"reentrant\"},{\"name\":\"g69\",\"kind\"" ++
    codes ":\"reentrant\"},{\"name\":\"g70\",\"kind\":\"reentrant\"},{\"name\":\"g71\",\"kind\":\"reentrant\"},{\"name\":\"g72\",\"kin" ++
    codes "d\":\"reentrant\"},{\"name\":\"g73\",\"kind\":\"reentrant\"},{\"name\":\"g74\",\"kind\":\"reentrant\"},{\"name\":\"g75\",\"k" ++
    codes "ind\":\"reentrant\"},{\"name\":\"g76\",\"kind\":\"reentrant\"},{\"name\":\"g77\",\"kind\":\"reentrant\"},{\"name\":\"g78\"," ++
    codes "\"kind\":\"reentrant\"},{\"name\":\"g79\",\"kind\":\"reentrant\"},{\"name\":\"g80\",\"kind\":\"reentrant\"},{\"name\":\"g81" ++
    codes "\",\"kind\":\"reentrant\"},{\"name\":\"g82\",\"kind\":\"reentrant\"},{\"name\":\"g83\",\"kind\":\"reentrant\"},{\"name\":\"g" ++
    codes "84\",\"kind\":\"reentrant\"},{\"name\":\"g85\",\"kind\":\"reentrant\"},{\"name\":\"g86\",\"kind\":\"reentrant\"},{\"name\":" ++
    codes "\"g87\",\"kind\":\"reentrant\"},{\"name\":\"g88\",\"kind\":\"reentrant\"},{\"name\":\"g89\",\"kind\":\"reentrant\"},{\"name" ++
    codes "\":\"g90\",\"kind\":\"reentrant\"},{\"name\":\"g91\",\"kind\":\"reentrant\"},{\"name\":\"g92\",\"kind\":\"reentrant\"},{\"na" ++
    codes "me\":\"g93\",\"kind\":\"reentrant\"},{\"name\":\"g94\",\"kind\":\"reentrant\"},{\"name\":\"g95\",\"kind\":\"reentrant\"},{\"" ++
    codes "name\":\"g96\",\"kind\":\"reentrant\"},{\"name\":\"g97\",\"kind\":\"reentrant\"},{\"name\":\"g98\",\"kind\":\"reentrant\"}," ++
    codes "{\"name\":\"g99\",\"kind\":\"reentrant\"},{\"name\":\"g100\",\"kind\":\"reentrant\"},{\"name\":\"g101\",\"kind\":\"reentran" ++
    codes "t\"},{\"name\":\"g102\",\"kind\":\"reentrant\"},{\"name\":\"g103\",\"kind\":\"reentrant\"},{\"name\":\"g104\",\"kind\":\"ree" ++
    codes "ntrant\"},{\"name\":\"g105\",\"kind\":\"reentrant\"},{\"name\":\"g106\",\"kind\":\"reentrant\"},{\"name\":\"g107\",\"kind\"" ++
    codes ":\"reentrant\"},{\"name\":\"g108\",\"kind\":\"reentrant\"},{\"name\":\"g109\",\"kind\":\"reentrant\"},{\"name\":\"g110\",\"" ++
    codes "kind\":\"reentrant\"},{\"name\":\"g111\",\"kind\":\"reentrant\"},{\"name\":\"g112\",\"kind\":\"reentrant\"},{\"name\":\"g1" ++
    codes "13\",\"kind\":\"reentrant\"},{\"name\":\"g114\",\"kind\":\"reentrant\"},{\"name\":\"g115\",\"kind\":\"reentrant\"},{\"name" ++
    codes "\":\"g116\",\"kind\":\"reentrant\"},{\"name\":\"g117\",\"kind\":\"reentrant\"},{\"name\":\"g118\",\"kind\":\"reentrant\"},{" ++
    codes "\"name\":\"g119\",\"kind\":\"reentrant\"},{\"name\":\"g120\",\"kind\":\"reentrant\"},{\"name\":\"g121\",\"kind\":\"reentran" ++
    codes "t\"},{\"name\":\"g122\",\"kind\":\"reentrant\"},{\"name\":\"g123\",\"kind\":\"reentrant\"},{\"name\":\"g124\",\"kind\":\"ree" ++
    codes "ntrant\"},{\"name\":\"g125\",\"kind\":\"reentrant\"},{\"name\":\"g126\",\"kind\":\"reentrant\"},{\"name\":\"g127\",\"kind\"" ++
    codes ":\"reentrant\"},{\"name\":\"g128\",\"kind\":\"reentrant\"},{\"name\":\"g129\",\"kind\":\"reentrant\"},{\"name\":\"g130\",\"" ++
    codes "kind\":\"reentrant\"},{\"name\":\"g131\",\"kind\":\"reentrant\"},{\"name\":\"g132\",\"kind\":\"reentrant\"},{\"name\":\"g1" ++
    codes "33\",\"kind\":\"reentrant\"},{\"name\":\"g134\",\"kind\":\"reentrant\"},{\"name\":\"g135\",\"kind\":\"reentrant\"},{\"name" ++
    codes "\":\"g136\",\"kind\":\"reentrant\"},{\"name\":\"g137\",\"kind\":\"reentrant\"},{\"name\":\"g138\",\"kind\":\"reentrant\"},{" ++
    codes "\"name\":\"g139\",\"kind\":\"reentrant\"},{\"name\":\"g140\",\"kind\":\"reentrant\"},{\"name\":\"g141\",\"kind\":\"reentran" ++
    codes "t\"},{\"name\":\"g142\",\"kind\":\"reentrant\"},{\"name\":\"g143\",\"kind\":\"reentrant\"},{\"name\":\"g144\",\"kind\":\"ree" ++
    codes "ntrant\"},{\"name\":\"g145\",\"kind\":\"reentrant\"},{\"name\":\"g146\",\"kind\":\"reentrant\"},{\"name\":\"g147\",\"kind\"" ++
    codes ":\"reentrant\"},{\"name\":\"g148\",\"kind\":\"reentrant\"},{\"name\":\"g149\",\"kind\":\"reentrant\"},{\"name\":\"g150\",\"" ++
    codes "kind\":\"reentrant\"},{\"name\":\"g151\",\"kind\":\"reentrant\"},{\"name\":\"g152\",\"kind\":\"reentrant\"},{\"name\":\"g1" ++
    codes "53\",\"kind\":\"reentrant\"},{\"name\":\"g154\",\"kind\":\"reentrant\"},{\"name\":\"g155\",\"kind\":\"reentrant\"},{\"name" ++
    codes "\":\"g156\",\"kind\":\"reentrant\"},{\"name\":\"g157\",\"kind\":\"reentrant\"},{\"name\":\"g158\",\"kind\":\"reentrant\"},{" ++
    codes "\"name\":\"g159\",\"kind\":\"reentrant\"},{\"name\":\"g160\",\"kind\":\"reentrant\"},{\"name\":\"g161\",\"kind\":\"reentran" ++
    codes "t\"},{\"name\":\"g162\",\"kind\":\"reentrant\"},{\"name\":\"g163\",\"kind\":\"reentrant\"},{\"name\":\"g164\",\"kind\":\"ree" ++
    codes "ntrant\"},{\"name\":\"g165\",\"kind\":\"reentrant\"},{\"name\":\"g166\",\"kind\":\"reentrant\"},{\"name\":\"g167\",\"kind\"" ++
    codes ":\"reentrant\"},{\"name\":\"g168\",\"kind\":\"reentrant\"},{\"name\":\"g169\",\"kind\":\"reentrant\"},{\"name\":\"g170\",\"" ++
    codes "kind\":\"reentrant\"},{\"name\":\"g171\",\"kind\":\"reentrant\"},{\"name\":\"g172\",\"kind\":\"reentrant\"},{\"name\":\"g1" ++
    codes "73\",\"kind\":\"reentrant\"},{\"name\":\"g174\",\"kind\":\"reentrant\"},{\"name\":\"g175\",\"kind\":\"reentrant\"},{\"name" ++
    codes "\":\"g176\",\"kind\":\"reentrant\"},{\"name\":\"g177\",\"kind\":\"reentrant\"},{\"name\":\"g178\",\"kind\":\"reentrant\"},{" ++
    codes "\"name\":\"g179\",\"kind\":\"reentrant\"},{\"name\":\"g180\",\"kind\":\"reentrant\"},{\"name\":\"g181\",\"kind\":\"reentran" ++
    codes "t\"},{\"name\":\"g182\",\"kind\":\"reentrant\"},{\"name\":\"g183\",\"kind\":\"reentrant\"},{\"name\":\"g184\",\"kind\":\"ree" ++
    codes "ntrant\"},{\"name\":\"g185\",\"kind\":\"reentrant\"},{\"name\":\"g186\",\"kind\":\"reentrant\"},{\"name\":\"g187\",\"kind\"" ++
    codes ":\"reentrant\"},{\"name\":\"g188\",\"kind\":\"reentrant\"},{\"name\":\"g189\",\"kind\":\"reentrant\"},{\"name\":\"g190\",\"" ++
    codes "kind\":\"reentrant\"},{\"name\":\"g191\",\"kind\":\"reentrant\"},{\"name\":\"g192\",\"kind\":\"reentrant\"},{\"name\":\"g1" ++
    codes "93\",\"kind\":\"reentrant\"},{\"name\":\"g194\",\"kind\":\"reentrant\"},{\"name\":\"g195\",\"kind\":\"reentrant\"},{\"name" ++
    codes "\":\"g196\",\"kind\":\"reentrant\"},{\"name\":\"g197\",\"kind\":\"reentrant\"},{\"name\":\"g198\",\"kind\":\"reentrant\"},{" ++
    codes "\"name\":\"g199\",\"kind\":\"reentrant\"},{\"name\":\"g200\",\"kind\":\"reentrant\"},{\"name\":\"g201\",\"kind\":\"reentran" ++
    codes "t\"},{\"name\":\"g202\",\"kind\":\"reentrant\"},{\"name\":\"g203\",\"kind\":\"reentrant\"},{\"name\":\"g204\",\"kind\":\"ree" ++
    codes "ntrant\"},{\"name\":\"g205\",\"kind\":\"reentrant\"},{\"name\":\"g206\",\"kind\":\"reentrant\"},{\"name\":\"g207\",\"kind\"" ++
    codes ":\"reentrant\"},{\"name\":\"g208\",\"kind\":\"reentrant\"},{\"name\":\"g209\",\"kind\":\"reentrant\"},{\"name\":\"g210\",\"" ++
    codes "kind\":\"reentrant\"},{\"name\":\"g211\",\"kind\":\"reentrant\"},{\"name\":\"g212\",\"kind\":\"reentrant\"},{\"name\":\"g2" ++
    codes "13\",\"kind\":\"reentrant\"},{\"name\":\"g214\",\"kind\":\"reentrant\"},{\"name\":\"g215\",\"kind\":\"reentrant\"},{\"name" ++
    codes "\":\"g216\",\"kind\":\"reentrant\"},{\"name\":\"g217\",\"kind\":\"reentrant\"},{\"name\":\"g218\",\"kind\":\"reentrant\"},{" ++
    codes "\"name\":\"g219\",\"kind\":\"reentrant\"},{\"name\":\"g220\",\"kind\":\"reentrant\"},{\"name\":\"g221\",\"kind\":\"reentran" ++
    codes "t\"},{\"name\":\"g222\",\"kind\":\"reentrant\"},{\"name\":\"g223\",\"kind\":\"reentrant\"},{\"name\":\"g224\",\"kind\":\"ree" ++
    codes "ntrant\"},{\"name\":\"g225\",\"kind\":\"reentrant\"},{\"name\":\"g226\",\"kind\":\"reentrant\"},{\"name\":\"g227\",\"kind\"" ++
    codes ":\"reentrant\"},{\"name\":\"g228\",\"kind\":\"reentrant\"},{\"name\":\"g229\",\"kind\":\"reentrant\"},{\"name\":\"g230\",\"" ++
    codes "kind\":\"reentrant\"},{\"name\":\"g231\",\"kind\":\"reentrant\"},{\"name\":\"g232\",\"kind\":\"reentrant\"},{\"name\":\"g2" ++
    codes "33\",\"kind\":\"reentrant\"},{\"name\":\"g234\",\"kind\":\"reentrant\"},{\"name\":\"g235\",\"kind\":\"reentrant\"},{\"name" ++
    codes "\":\"g236\",\"kind\":\"reentrant\"},{\"name\":\"g237\",\"kind\":\"reentrant\"},{\"name\":\"g238\",\"kind\":\"reentrant\"},{" ++
    codes "\"name\":\"g239\",\"kind\":\"reentrant\"},{\"name\":\"g240\",\"kind\":\"reentrant\"},{\"name\":\"g241\",\"kind\":\"reentran" ++
    codes "t\"},{\"name\":\"g242\",\"kind\":\"reentrant\"},{\"name\":\"g243\",\"kind\":\"reentrant\"},{\"name\":\"g244\",\"kind\":\"ree" ++
    codes "ntrant\"},{\"name\":\"g245\",\"kind\":\"reentrant\"},{\"name\":\"g246\",\"kind\":\"reentrant\"},{\"name\":\"g247\",\"kind\"" ++
    codes ":\"reentrant\"},{\"name\":\"g248\",\"kind\":\"reentrant\"},{\"name\":\"g249\",\"kind\":\"reentrant\"},{\"name\":\"g250\",\"" ++
    codes "kind\":\"reentrant\"},{\"name\":\"g251\",\"kind\":\"reentrant\"},{\"name\":\"g252\",\"kind\":\"reentrant\"},{\"name\":\"g2" ++
    codes "53\",\"kind\":\"reentrant\"},{\"name\":\"g254\",\"kind\":\"reentrant\"},{\"name\":\"g255\",\"kind\":\"reentrant\"},{\"name" ++
    codes "\":\"g256\",\"kind\":\"reentrant\"}]}]}" ++ 10 ∷
    []

-- cases/limits/257_instructions.json
abbrev pub limits_257_instructions_document : List ℕ
limits_257_instructions_document =
    codes "{\"version\":1,\"nodes\":[{\"name\":\"n\",\"timers\":[{\"name\":\"t\",\"period\":1,\"script\":[[\"log\",0],[\"log\",1],[\"l" ++
    codes "og\",2],[\"log\",3],[\"log\",4],[\"log\",5],[\"log\",6],[\"log\",7],[\"log\",8],[\"log\",9],[\"log\",10],[\"log\",11],[" ++
    codes "\"log\",12],[\"log\",13],[\"log\",14],[\"log\",15],[\"log\",16],[\"log\",17],[\"log\",18],[\"log\",19],[\"log\",20],[\"" ++
    codes "log\",21],[\"log\",22],[\"log\",23],[\"log\",24],[\"log\",25],[\"log\",26],[\"log\",27],[\"log\",28],[\"log\",29],[\"l" ++
    codes "og\",30],[\"log\",31],[\"log\",32],[\"log\",33],[\"log\",34],[\"log\",35],[\"log\",36],[\"log\",37],[\"log\",38],[\"lo" ++
    codes "g\",39],[\"log\",40],[\"log\",41],[\"log\",42],[\"log\",43],[\"log\",44],[\"log\",45],[\"log\",46],[\"log\",47],[\"log" ++
    codes "\",48],[\"log\",49],[\"log\",50],[\"log\",51],[\"log\",52],[\"log\",53],[\"log\",54],[\"log\",55],[\"log\",56],[\"log\"" ++
    codes ",57],[\"log\",58],[\"log\",59],[\"log\",60],[\"log\",61],[\"log\",62],[\"log\",63],[\"log\",64],[\"log\",65],[\"log\"," ++
    codes "66],[\"log\",67],[\"log\",68],[\"log\",69],[\"log\",70],[\"log\",71],[\"log\",72],[\"log\",73],[\"log\",74],[\"log\",7" ++
    codes "5],[\"log\",76],[\"log\",77],[\"log\",78],[\"log\",79],[\"log\",80],[\"log\",81],[\"log\",82],[\"log\",83],[\"log\",84" ++
    codes "],[\"log\",85],[\"log\",86],[\"log\",87],[\"log\",88],[\"log\",89],[\"log\",90],[\"log\",91],[\"log\",92],[\"log\",93]" ++
    codes ",[\"log\",94],[\"log\",95],[\"log\",96],[\"log\",97],[\"log\",98],[\"log\",99],[\"log\",100],[\"log\",101],[\"log\",10" ++
    codes "2],[\"log\",103],[\"log\",104],[\"log\",105],[\"log\",106],[\"log\",107],[\"log\",108],[\"log\",109],[\"log\",110],[" ++
    codes "\"log\",111],[\"log\",112],[\"log\",113],[\"log\",114],[\"log\",115],[\"log\",116],[\"log\",117],[\"log\",118],[\"log" ++
    codes "\",119],[\"log\",120],[\"log\",121],[\"log\",122],[\"log\",123],[\"log\",124],[\"log\",125],[\"log\",126],[\"log\",12" ++
    codes "7],[\"log\",128],[\"log\",129],[\"log\",130],[\"log\",131],[\"log\",132],[\"log\",133],[\"log\",134],[\"log\",135],[" ++
    codes "\"log\",136],[\"log\",137],[\"log\",138],[\"log\",139],[\"log\",140],[\"log\",141],[\"log\",142],[\"log\",143],[\"log" ++
    codes "\",144],[\"log\",145],[\"log\",146],[\"log\",147],[\"log\",148],[\"log\",149],[\"log\",150],[\"log\",151],[\"log\",15" ++
    codes "2],[\"log\",153],[\"log\",154],[\"log\",155],[\"log\",156],[\"log\",157],[\"log\",158],[\"log\",159],[\"log\",160],[" ++
    codes "\"log\",161],[\"log\",162],[\"log\",163],[\"log\",164],[\"log\",165],[\"log\",166],[\"log\",167],[\"log\",168],[\"log" ++
    codes "\",169],[\"log\",170],[\"log\",171],[\"log\",172],[\"log\",173],[\"log\",174],[\"log\",175],[\"log\",176],[\"log\",17" ++
    codes "7],[\"log\",178],[\"log\",179],[\"log\",180],[\"log\",181],[\"log\",182],[\"log\",183],[\"log\",184],[\"log\",185],[" ++
    codes "\"log\",186],[\"log\",187],[\"log\",188],[\"log\",189],[\"log\",190],[\"log\",191],[\"log\",192],[\"log\",193],[\"log" ++
    codes "\",194],[\"log\",195],[\"log\",196],[\"log\",197],[\"log\",198],[\"log\",199],[\"log\",200],[\"log\",201],[\"log\",20" ++
    codes "2],[\"log\",203],[\"log\",204],[\"log\",205],[\"log\",206],[\"log\",207],[\"log\",208],[\"log\",209],[\"log\",210],[" ++
    codes "\"log\",211],[\"log\",212],[\"log\",213],[\"log\",214],[\"log\",215],[\"log\",216],[\"log\",217],[\"log\",218],[\"log" ++
    codes "\",219],[\"log\",220],[\"log\",221],[\"log\",222],[\"log\",223],[\"log\",224],[\"log\",225],[\"log\",226],[\"log\",22" ++
    codes "7],[\"log\",228],[\"log\",229],[\"log\",230],[\"log\",231],[\"log\",232],[\"log\",233],[\"log\",234],[\"log\",235],[" ++
    codes "\"log\",236],[\"log\",237],[\"log\",238],[\"log\",239],[\"log\",240],[\"log\",241],[\"log\",242],[\"log\",243],[\"log" ++
    codes "\",244],[\"log\",245],[\"log\",246],[\"log\",247],[\"log\",248],[\"log\",249],[\"log\",250],[\"log\",251],[\"log\",25" ++
    codes "2],[\"log\",253],[\"log\",254],[\"log\",255],[\"log\",256]]}]}]}" ++ 10 ∷
    []

-- cases/limits/257_topics.json
abbrev pub limits_257_topics_document : List ℕ
limits_257_topics_document =
    codes "{\"version\":1,\"topics\":[\"n0\",\"n1\",\"n2\",\"n3\",\"n4\",\"n5\",\"n6\",\"n7\",\"n8\",\"n9\",\"n10\",\"n11\",\"n12\",\"n13\",\"n1" ++
    codes "4\",\"n15\",\"n16\",\"n17\",\"n18\",\"n19\",\"n20\",\"n21\",\"n22\",\"n23\",\"n24\",\"n25\",\"n26\",\"n27\",\"n28\",\"n29\",\"n30\",\"" ++
    codes "n31\",\"n32\",\"n33\",\"n34\",\"n35\",\"n36\",\"n37\",\"n38\",\"n39\",\"n40\",\"n41\",\"n42\",\"n43\",\"n44\",\"n45\",\"n46\",\"n47\"" ++
    codes ",\"n48\",\"n49\",\"n50\",\"n51\",\"n52\",\"n53\",\"n54\",\"n55\",\"n56\",\"n57\",\"n58\",\"n59\",\"n60\",\"n61\",\"n62\",\"n63\",\"n6" ++
    codes "4\",\"n65\",\"n66\",\"n67\",\"n68\",\"n69\",\"n70\",\"n71\",\"n72\",\"n73\",\"n74\",\"n75\",\"n76\",\"n77\",\"n78\",\"n79\",\"n80\",\"" ++
    codes "n81\",\"n82\",\"n83\",\"n84\",\"n85\",\"n86\",\"n87\",\"n88\",\"n89\",\"n90\",\"n91\",\"n92\",\"n93\",\"n94\",\"n95\",\"n96\",\"n97\"" ++
    codes ",\"n98\",\"n99\",\"n100\",\"n101\",\"n102\",\"n103\",\"n104\",\"n105\",\"n106\",\"n107\",\"n108\",\"n109\",\"n110\",\"n111\",\"n1" ++
    codes "12\",\"n113\",\"n114\",\"n115\",\"n116\",\"n117\",\"n118\",\"n119\",\"n120\",\"n121\",\"n122\",\"n123\",\"n124\",\"n125\",\"n126" ++
    codes "\",\"n127\",\"n128\",\"n129\",\"n130\",\"n131\",\"n132\",\"n133\",\"n134\",\"n135\",\"n136\",\"n137\",\"n138\",\"n139\",\"n140\"," ++
    codes "\"n141\",\"n142\",\"n143\",\"n144\",\"n145\",\"n146\",\"n147\",\"n148\",\"n149\",\"n150\",\"n151\",\"n152\",\"n153\",\"n154\",\"n" ++
    codes "155\",\"n156\",\"n157\",\"n158\",\"n159\",\"n160\",\"n161\",\"n162\",\"n163\",\"n164\",\"n165\",\"n166\",\"n167\",\"n168\",\"n16" ++
    codes "9\",\"n170\",\"n171\",\"n172\",\"n173\",\"n174\",\"n175\",\"n176\",\"n177\",\"n178\",\"n179\",\"n180\",\"n181\",\"n182\",\"n183\"" ++
    codes ",\"n184\",\"n185\",\"n186\",\"n187\",\"n188\",\"n189\",\"n190\",\"n191\",\"n192\",\"n193\",\"n194\",\"n195\",\"n196\",\"n197\",\"" ++
    codes "n198\",\"n199\",\"n200\",\"n201\",\"n202\",\"n203\",\"n204\",\"n205\",\"n206\",\"n207\",\"n208\",\"n209\",\"n210\",\"n211\",\"n2" ++
    codes "12\",\"n213\",\"n214\",\"n215\",\"n216\",\"n217\",\"n218\",\"n219\",\"n220\",\"n221\",\"n222\",\"n223\",\"n224\",\"n225\",\"n226" ++
    codes "\",\"n227\",\"n228\",\"n229\",\"n230\",\"n231\",\"n232\",\"n233\",\"n234\",\"n235\",\"n236\",\"n237\",\"n238\",\"n239\",\"n240\"," ++
    codes "\"n241\",\"n242\",\"n243\",\"n244\",\"n245\",\"n246\",\"n247\",\"n248\",\"n249\",\"n250\",\"n251\",\"n252\",\"n253\",\"n254\",\"n" ++
    codes "255\",\"n256\"]}" ++ 10 ∷
    []

-- cases/limits/512_timers.json
abbrev pub limits_512_timers_document : List ℕ
limits_512_timers_document =
    codes "{\"version\":1,\"nodes\":[{\"name\":\"n\",\"timers\":[{\"name\":\"t0\",\"period\":1},{\"name\":\"t1\",\"period\":1},{\"name" ++
    codes "\":\"t2\",\"period\":1},{\"name\":\"t3\",\"period\":1},{\"name\":\"t4\",\"period\":1},{\"name\":\"t5\",\"period\":1},{\"name" ++
    codes "\":\"t6\",\"period\":1},{\"name\":\"t7\",\"period\":1},{\"name\":\"t8\",\"period\":1},{\"name\":\"t9\",\"period\":1},{\"name" ++
    codes "\":\"t10\",\"period\":1},{\"name\":\"t11\",\"period\":1},{\"name\":\"t12\",\"period\":1},{\"name\":\"t13\",\"period\":1},{\"" ++
    codes "name\":\"t14\",\"period\":1},{\"name\":\"t15\",\"period\":1},{\"name\":\"t16\",\"period\":1},{\"name\":\"t17\",\"period\":1" ++
    codes "},{\"name\":\"t18\",\"period\":1},{\"name\":\"t19\",\"period\":1},{\"name\":\"t20\",\"period\":1},{\"name\":\"t21\",\"perio" ++
    codes "d\":1},{\"name\":\"t22\",\"period\":1},{\"name\":\"t23\",\"period\":1},{\"name\":\"t24\",\"period\":1},{\"name\":\"t25\",\"p" ++
    codes "eriod\":1},{\"name\":\"t26\",\"period\":1},{\"name\":\"t27\",\"period\":1},{\"name\":\"t28\",\"period\":1},{\"name\":\"t29" ++
    codes "\",\"period\":1},{\"name\":\"t30\",\"period\":1},{\"name\":\"t31\",\"period\":1},{\"name\":\"t32\",\"period\":1},{\"name\":" ++
    codes "\"t33\",\"period\":1},{\"name\":\"t34\",\"period\":1},{\"name\":\"t35\",\"period\":1},{\"name\":\"t36\",\"period\":1},{\"na" ++
    codes "me\":\"t37\",\"period\":1},{\"name\":\"t38\",\"period\":1},{\"name\":\"t39\",\"period\":1},{\"name\":\"t40\",\"period\":1}," ++
    codes "{\"name\":\"t41\",\"period\":1},{\"name\":\"t42\",\"period\":1},{\"name\":\"t43\",\"period\":1},{\"name\":\"t44\",\"period\"" ++
    codes ":1},{\"name\":\"t45\",\"period\":1},{\"name\":\"t46\",\"period\":1},{\"name\":\"t47\",\"period\":1},{\"name\":\"t48\",\"per" ++
    codes "iod\":1},{\"name\":\"t49\",\"period\":1},{\"name\":\"t50\",\"period\":1},{\"name\":\"t51\",\"period\":1},{\"name\":\"t52\"," ++
    codes "\"period\":1},{\"name\":\"t53\",\"period\":1},{\"name\":\"t54\",\"period\":1},{\"name\":\"t55\",\"period\":1},{\"name\":\"t" ++
    codes "56\",\"period\":1},{\"name\":\"t57\",\"period\":1},{\"name\":\"t58\",\"period\":1},{\"name\":\"t59\",\"period\":1},{\"name" ++
    codes "\":\"t60\",\"period\":1},{\"name\":\"t61\",\"period\":1},{\"name\":\"t62\",\"period\":1},{\"name\":\"t63\",\"period\":1},{\"" ++
    codes "name\":\"t64\",\"period\":1},{\"name\":\"t65\",\"period\":1},{\"name\":\"t66\",\"period\":1},{\"name\":\"t67\",\"period\":1" ++
    codes "},{\"name\":\"t68\",\"period\":1},{\"name\":\"t69\",\"period\":1},{\"name\":\"t70\",\"period\":1},{\"name\":\"t71\",\"perio" ++
    codes "d\":1},{\"name\":\"t72\",\"period\":1},{\"name\":\"t73\",\"period\":1},{\"name\":\"t74\",\"period\":1},{\"name\":\"t75\",\"p" ++
    codes "eriod\":1},{\"name\":\"t76\",\"period\":1},{\"name\":\"t77\",\"period\":1},{\"name\":\"t78\",\"period\":1},{\"name\":\"t79" ++
    codes "\",\"period\":1},{\"name\":\"t80\",\"period\":1},{\"name\":\"t81\",\"period\":1},{\"name\":\"t82\",\"period\":1},{\"name\":" ++
    codes "\"t83\",\"period\":1},{\"name\":\"t84\",\"period\":1},{\"name\":\"t85\",\"period\":1},{\"name\":\"t86\",\"period\":1},{\"na" ++
    codes "me\":\"t87\",\"period\":1},{\"name\":\"t88\",\"period\":1},{\"name\":\"t89\",\"period\":1},{\"name\":\"t90\",\"period\":1}," ++
    codes "{\"name\":\"t91\",\"period\":1},{\"name\":\"t92\",\"period\":1},{\"name\":\"t93\",\"period\":1},{\"name\":\"t94\",\"period\"" ++
    codes ":1},{\"name\":\"t95\",\"period\":1},{\"name\":\"t96\",\"period\":1},{\"name\":\"t97\",\"period\":1},{\"name\":\"t98\",\"per" ++
    codes "iod\":1},{\"name\":\"t99\",\"period\":1},{\"name\":\"t100\",\"period\":1},{\"name\":\"t101\",\"period\":1},{\"name\":\"t10" ++
    codes "2\",\"period\":1},{\"name\":\"t103\",\"period\":1},{\"name\":\"t104\",\"period\":1},{\"name\":\"t105\",\"period\":1},{\"na" ++
    codes "me\":\"t106\",\"period\":1},{\"name\":\"t107\",\"period\":1},{\"name\":\"t108\",\"period\":1},{\"name\":\"t109\",\"period\"" ++
    codes ":1},{\"name\":\"t110\",\"period\":1},{\"name\":\"t111\",\"period\":1},{\"name\":\"t112\",\"period\":1},{\"name\":\"t113\"," ++
    codes "\"period\":1},{\"name\":\"t114\",\"period\":1},{\"name\":\"t115\",\"period\":1},{\"name\":\"t116\",\"period\":1},{\"name\"" ++
    codes ":\"t117\",\"period\":1},{\"name\":\"t118\",\"period\":1},{\"name\":\"t119\",\"period\":1},{\"name\":\"t120\",\"period\":1}" ++
    codes ",{\"name\":\"t121\",\"period\":1},{\"name\":\"t122\",\"period\":1},{\"name\":\"t123\",\"period\":1},{\"name\":\"t124\",\"pe" ++
    codes "riod\":1},{\"name\":\"t125\",\"period\":1},{\"name\":\"t126\",\"period\":1},{\"name\":\"t127\",\"period\":1},{\"name\":\"t" ++
    codes "128\",\"period\":1},{\"name\":\"t129\",\"period\":1},{\"name\":\"t130\",\"period\":1},{\"name\":\"t131\",\"period\":1},{\"" ++
    codes "name\":\"t132\",\"period\":1},{\"name\":\"t133\",\"period\":1},{\"name\":\"t134\",\"period\":1},{\"name\":\"t135\",\"perio" ++
    codes "d\":1},{\"name\":\"t136\",\"period\":1},{\"name\":\"t137\",\"period\":1},{\"name\":\"t138\",\"period\":1},{\"name\":\"t139" ++
    codes "\",\"period\":1},{\"name\":\"t140\",\"period\":1},{\"name\":\"t141\",\"period\":1},{\"name\":\"t142\",\"period\":1},{\"nam" ++
    codes "e\":\"t143\",\"period\":1},{\"name\":\"t144\",\"period\":1},{\"name\":\"t145\",\"period\":1},{\"name\":\"t146\",\"period\":" ++
    codes "1},{\"name\":\"t147\",\"period\":1},{\"name\":\"t148\",\"period\":1},{\"name\":\"t149\",\"period\":1},{\"name\":\"t150\",\"" ++
    codes "period\":1},{\"name\":\"t151\",\"period\":1},{\"name\":\"t152\",\"period\":1},{\"name\":\"t153\",\"period\":1},{\"name\":" ++
    codes "\"t154\",\"period\":1},{\"name\":\"t155\",\"period\":1},{\"name\":\"t156\",\"period\":1},{\"name\":\"t157\",\"period\":1}," ++
    codes "{\"name\":\"t158\",\"period\":1},{\"name\":\"t159\",\"period\":1},{\"name\":\"t160\",\"period\":1},{\"name\":\"t161\",\"per" ++
    codes "iod\":1},{\"name\":\"t162\",\"period\":1},{\"name\":\"t163\",\"period\":1},{\"name\":\"t164\",\"period\":1},{\"name\":\"t1" ++
    codes "65\",\"period\":1},{\"name\":\"t166\",\"period\":1},{\"name\":\"t167\",\"period\":1},{\"name\":\"t168\",\"period\":1},{\"n" ++
    codes "ame\":\"t169\",\"period\":1},{\"name\":\"t170\",\"period\":1},{\"name\":\"t171\",\"period\":1},{\"name\":\"t172\",\"period" ++
    codes "\":1},{\"name\":\"t173\",\"period\":1},{\"name\":\"t174\",\"period\":1},{\"name\":\"t175\",\"period\":1},{\"name\":\"t176\"" ++
    codes ",\"period\":1},{\"name\":\"t177\",\"period\":1},{\"name\":\"t178\",\"period\":1},{\"name\":\"t179\",\"period\":1},{\"name" ++
    codes "\":\"t180\",\"period\":1},{\"name\":\"t181\",\"period\":1},{\"name\":\"t182\",\"period\":1},{\"name\":\"t183\",\"period\":1" ++
    codes "},{\"name\":\"t184\",\"period\":1},{\"name\":\"t185\",\"period\":1},{\"name\":\"t186\",\"period\":1},{\"name\":\"t187\",\"p" ++
    codes "eriod\":1},{\"name\":\"t188\",\"period\":1},{\"name\":\"t189\",\"period\":1},{\"name\":\"t190\",\"period\":1},{\"name\":\"" ++
    codes "t191\",\"period\":1},{\"name\":\"t192\",\"period\":1},{\"name\":\"t193\",\"period\":1},{\"name\":\"t194\",\"period\":1},{" ++
    codes "\"name\":\"t195\",\"period\":1},{\"name\":\"t196\",\"period\":1},{\"name\":\"t197\",\"period\":1},{\"name\":\"t198\",\"peri" ++
    codes "od\":1},{\"name\":\"t199\",\"period\":1},{\"name\":\"t200\",\"period\":1},{\"name\":\"t201\",\"period\":1},{\"name\":\"t20" ++
    codes "2\",\"period\":1},{\"name\":\"t203\",\"period\":1},{\"name\":\"t204\",\"period\":1},{\"name\":\"t205\",\"period\":1},{\"na" ++
    codes "me\":\"t206\",\"period\":1},{\"name\":\"t207\",\"period\":1},{\"name\":\"t208\",\"period\":1},{\"name\":\"t209\",\"period\"" ++
    codes ":1},{\"name\":\"t210\",\"period\":1},{\"name\":\"t211\",\"period\":1},{\"name\":\"t212\",\"period\":1},{\"name\":\"t213\"," ++
    codes "\"period\":1},{\"name\":\"t214\",\"period\":1},{\"name\":\"t215\",\"period\":1},{\"name\":\"t216\",\"period\":1},{\"name\"" ++
    codes ":\"t217\",\"period\":1},{\"name\":\"t218\",\"period\":1},{\"name\":\"t219\",\"period\":1},{\"name\":\"t220\",\"period\":1}" ++
    codes ",{\"name\":\"t221\",\"period\":1},{\"name\":\"t222\",\"period\":1},{\"name\":\"t223\",\"period\":1},{\"name\":\"t224\",\"pe" ++
    codes "riod\":1},{\"name\":\"t225\",\"period\":1},{\"name\":\"t226\",\"period\":1},{\"name\":\"t227\",\"period\":1},{\"name\":\"t" ++
    codes "228\",\"period\":1},{\"name\":\"t229\",\"period\":1},{\"name\":\"t230\",\"period\":1},{\"name\":\"t231\",\"period\":1},{\"" ++
    codes "name\":\"t232\",\"period\":1},{\"name\":\"t233\",\"period\":1},{\"name\":\"t234\",\"period\":1},{\"name\":\"t235\",\"perio" ++
    codes "d\":1},{\"name\":\"t236\",\"period\":1},{\"name\":\"t237\",\"period\":1},{\"name\":\"t238\",\"period\":1},{\"name\":\"t239" ++
    codes "\",\"period\":1},{\"name\":\"t240\",\"period\":1},{\"name\":\"t241\",\"period\":1},{\"name\":\"t242\",\"period\":1},{\"nam" ++
    codes "e\":\"t243\",\"period\":1},{\"name\":\"t244\",\"period\":1},{\"name\":\"t245\",\"period\":1},{\"name\":\"t246\",\"period\":" ++
    codes "1},{\"name\":\"t247\",\"period\":1},{\"name\":\"t248\",\"period\":1},{\"name\":\"t249\",\"period\":1},{\"name\":\"t250\",\"" ++
    codes "period\":1},{\"name\":\"t251\",\"period\":1},{\"name\":\"t252\",\"period\":1},{\"name\":\"t253\",\"period\":1},{\"name\":" ++
    codes "\"t254\",\"period\":1},{\"name\":\"t255\",\"period\":1},{\"name\":\"t256\",\"period\":1},{\"name\":\"t257\",\"period\":1}," ++
    codes "{\"name\":\"t258\",\"period\":1},{\"name\":\"t259\",\"period\":1},{\"name\":\"t260\",\"period\":1},{\"name\":\"t261\",\"per" ++
    codes "iod\":1},{\"name\":\"t262\",\"period\":1},{\"name\":\"t263\",\"period\":1},{\"name\":\"t264\",\"period\":1},{\"name\":\"t2" ++
    codes "65\",\"period\":1},{\"name\":\"t266\",\"period\":1},{\"name\":\"t267\",\"period\":1},{\"name\":\"t268\",\"period\":1},{\"n" ++
    codes "ame\":\"t269\",\"period\":1},{\"name\":\"t270\",\"period\":1},{\"name\":\"t271\",\"period\":1},{\"name\":\"t272\",\"period" ++
    codes "\":1},{\"name\":\"t273\",\"period\":1},{\"name\":\"t274\",\"period\":1},{\"name\":\"t275\",\"period\":1},{\"name\":\"t276\"" ++
    codes ",\"period\":1},{\"name\":\"t277\",\"period\":1},{\"name\":\"t278\",\"period\":1},{\"name\":\"t279\",\"period\":1},{\"name" ++
    codes "\":\"t280\",\"period\":1},{\"name\":\"t281\",\"period\":1},{\"name\":\"t282\",\"period\":1},{\"name\":\"t283\",\"period\":1" ++
    codes "},{\"name\":\"t284\",\"period\":1},{\"name\":\"t285\",\"period\":1},{\"name\":\"t286\",\"period\":1},{\"name\":\"t287\",\"p" ++
    codes "eriod\":1},{\"name\":\"t288\",\"period\":1},{\"name\":\"t289\",\"period\":1},{\"name\":\"t290\",\"period\":1},{\"name\":\"" ++
    codes "t291\",\"period\":1},{\"name\":\"t292\",\"period\":1},{\"name\":\"t293\",\"period\":1},{\"name\":\"t294\",\"period\":1},{" ++
    codes "\"name\":\"t295\",\"period\":1},{\"name\":\"t296\",\"period\":1},{\"name\":\"t297\",\"period\":1},{\"name\":\"t298\",\"peri" ++
    codes "od\":1},{\"name\":\"t299\",\"period\":1},{\"name\":\"t300\",\"period\":1},{\"name\":\"t301\",\"period\":1},{\"name\":\"t30" ++
    codes "2\",\"period\":1},{\"name\":\"t303\",\"period\":1},{\"name\":\"t304\",\"period\":1},{\"name\":\"t305\",\"period\":1},{\"na" ++
    codes "me\":\"t306\",\"period\":1},{\"name\":\"t307\",\"period\":1},{\"name\":\"t308\",\"period\":1},{\"name\":\"t309\",\"period\"" ++
    codes ":1},{\"name\":\"t310\",\"period\":1},{\"name\":\"t311\",\"period\":1},{\"name\":\"t312\",\"period\":1},{\"name\":\"t313\"," ++
    codes "\"period\":1},{\"name\":\"t314\",\"period\":1},{\"name\":\"t315\",\"period\":1},{\"name\":\"t316\",\"period\":1},{\"name\"" ++
    codes ":\"t317\",\"period\":1},{\"name\":\"t318\",\"period\":1},{\"name\":\"t319\",\"period\":1},{\"name\":\"t320\",\"period\":1}" ++
    codes ",{\"name\":\"t321\",\"period\":1},{\"name\":\"t322\",\"period\":1},{\"name\":\"t323\",\"period\":1},{\"name\":\"t324\",\"pe" ++
    codes "riod\":1},{\"name\":\"t325\",\"period\":1},{\"name\":\"t326\",\"period\":1},{\"name\":\"t327\",\"period\":1},{\"name\":\"t" ++
    codes "328\",\"period\":1},{\"name\":\"t329\",\"period\":1},{\"name\":\"t330\",\"period\":1},{\"name\":\"t331\",\"period\":1},{\"" ++
    codes "name\":\"t332\",\"period\":1},{\"name\":\"t333\",\"period\":1},{\"name\":\"t334\",\"period\":1},{\"name\":\"t335\",\"perio" ++
    codes "d\":1},{\"name\":\"t336\",\"period\":1},{\"name\":\"t337\",\"period\":1},{\"name\":\"t338\",\"period\":1},{\"name\":\"t339" ++
    codes "\",\"period\":1},{\"name\":\"t340\",\"period\":1},{\"name\":\"t341\",\"period\":1},{\"name\":\"t342\",\"period\":1},{\"nam" ++
    codes "e\":\"t343\",\"period\":1},{\"name\":\"t344\",\"period\":1},{\"name\":\"t345\",\"period\":1},{\"name\":\"t346\",\"period\":" ++
    codes "1},{\"name\":\"t347\",\"period\":1},{\"name\":\"t348\",\"period\":1},{\"name\":\"t349\",\"period\":1},{\"name\":\"t350\",\"" ++
    codes "period\":1},{\"name\":\"t351\",\"period\":1},{\"name\":\"t352\",\"period\":1},{\"name\":\"t353\",\"period\":1},{\"name\":" ++
    codes "\"t354\",\"period\":1},{\"name\":\"t355\",\"period\":1},{\"name\":\"t356\",\"period\":1},{\"name\":\"t357\",\"period\":1}," ++
    codes "{\"name\":\"t358\",\"period\":1},{\"name\":\"t359\",\"period\":1},{\"name\":\"t360\",\"period\":1},{\"name\":\"t361\",\"per" ++
    codes "iod\":1},{\"name\":\"t362\",\"period\":1},{\"name\":\"t363\",\"period\":1},{\"name\":\"t364\",\"period\":1},{\"name\":\"t3" ++
    codes "65\",\"period\":1},{\"name\":\"t366\",\"period\":1},{\"name\":\"t367\",\"period\":1},{\"name\":\"t368\",\"period\":1},{\"n" ++
    codes "ame\":\"t369\",\"period\":1},{\"name\":\"t370\",\"period\":1},{\"name\":\"t371\",\"period\":1},{\"name\":\"t372\",\"period" ++
    codes "\":1},{\"name\":\"t373\",\"period\":1},{\"name\":\"t374\",\"period\":1},{\"name\":\"t375\",\"period\":1},{\"name\":\"t376\"" ++
    codes ",\"period\":1},{\"name\":\"t377\",\"period\":1},{\"name\":\"t378\",\"period\":1},{\"name\":\"t379\",\"period\":1},{\"name" ++
    codes "\":\"t380\",\"period\":1},{\"name\":\"t381\",\"period\":1},{\"name\":\"t382\",\"period\":1},{\"name\":\"t383\",\"period\":1" ++
    codes "},{\"name\":\"t384\",\"period\":1},{\"name\":\"t385\",\"period\":1},{\"name\":\"t386\",\"period\":1},{\"name\":\"t387\",\"p" ++
    codes "eriod\":1},{\"name\":\"t388\",\"period\":1},{\"name\":\"t389\",\"period\":1},{\"name\":\"t390\",\"period\":1},{\"name\":\"" ++
    codes "t391\",\"period\":1},{\"name\":\"t392\",\"period\":1},{\"name\":\"t393\",\"period\":1},{\"name\":\"t394\",\"period\":1},{" ++
    codes "\"name\":\"t395\",\"period\":1},{\"name\":\"t396\",\"period\":1},{\"name\":\"t397\",\"period\":1},{\"name\":\"t398\",\"peri" ++
    codes "od\":1},{\"name\":\"t399\",\"period\":1},{\"name\":\"t400\",\"period\":1},{\"name\":\"t401\",\"period\":1},{\"name\":\"t40" ++
    codes "2\",\"period\":1},{\"name\":\"t403\",\"period\":1},{\"name\":\"t404\",\"period\":1},{\"name\":\"t405\",\"period\":1},{\"na" ++
    codes "me\":\"t406\",\"period\":1},{\"name\":\"t407\",\"period\":1},{\"name\":\"t408\",\"period\":1},{\"name\":\"t409\",\"period\"" ++
    codes ":1},{\"name\":\"t410\",\"period\":1},{\"name\":\"t411\",\"period\":1},{\"name\":\"t412\",\"period\":1},{\"name\":\"t413\"," ++
    codes "\"period\":1},{\"name\":\"t414\",\"period\":1},{\"name\":\"t415\",\"period\":1},{\"name\":\"t416\",\"period\":1},{\"name\"" ++
    codes ":\"t417\",\"period\":1},{\"name\":\"t418\",\"period\":1},{\"name\":\"t419\",\"period\":1},{\"name\":\"t420\",\"period\":1}" ++
    codes ",{\"name\":\"t421\",\"period\":1},{\"name\":\"t422\",\"period\":1},{\"name\":\"t423\",\"period\":1},{\"name\":\"t424\",\"pe" ++
    codes "riod\":1},{\"name\":\"t425\",\"period\":1},{\"name\":\"t426\",\"period\":1},{\"name\":\"t427\",\"period\":1},{\"name\":\"t" ++
    codes "428\",\"period\":1},{\"name\":\"t429\",\"period\":1},{\"name\":\"t430\",\"period\":1},{\"name\":\"t431\",\"period\":1},{\"" ++
    codes "name\":\"t432\",\"period\":1},{\"name\":\"t433\",\"period\":1},{\"name\":\"t434\",\"period\":1},{\"name\":\"t435\",\"perio" ++
    codes "d\":1},{\"name\":\"t436\",\"period\":1},{\"name\":\"t437\",\"period\":1},{\"name\":\"t438\",\"period\":1},{\"name\":\"t439" ++
    codes "\",\"period\":1},{\"name\":\"t440\",\"period\":1},{\"name\":\"t441\",\"period\":1},{\"name\":\"t442\",\"period\":1},{\"nam" ++
    codes "e\":\"t443\",\"period\":1},{\"name\":\"t444\",\"period\":1},{\"name\":\"t445\",\"period\":1},{\"name\":\"t446\",\"period\":" ++
    codes "1},{\"name\":\"t447\",\"period\":1},{\"name\":\"t448\",\"period\":1},{\"name\":\"t449\",\"period\":1},{\"name\":\"t450\",\"" ++
    codes "period\":1},{\"name\":\"t451\",\"period\":1},{\"name\":\"t452\",\"period\":1},{\"name\":\"t453\",\"period\":1},{\"name\":" ++
    codes "\"t454\",\"period\":1},{\"name\":\"t455\",\"period\":1},{\"name\":\"t456\",\"period\":1},{\"name\":\"t457\",\"period\":1}," ++
    codes "{\"name\":\"t458\",\"period\":1},{\"name\":\"t459\",\"period\":1},{\"name\":\"t460\",\"period\":1},{\"name\":\"t461\",\"per" ++
    codes "iod\":1},{\"name\":\"t462\",\"period\":1},{\"name\":\"t463\",\"period\":1},{\"name\":\"t464\",\"period\":1},{\"name\":\"t4" ++
    codes "65\",\"period\":1},{\"name\":\"t466\",\"period\":1},{\"name\":\"t467\",\"period\":1},{\"name\":\"t468\",\"period\":1},{\"n" ++
    codes "ame\":\"t469\",\"period\":1},{\"name\":\"t470\",\"period\":1},{\"name\":\"t471\",\"period\":1},{\"name\":\"t472\",\"period" ++
    codes "\":1},{\"name\":\"t473\",\"period\":1},{\"name\":\"t474\",\"period\":1},{\"name\":\"t475\",\"period\":1},{\"name\":\"t476\"" ++
    codes ",\"period\":1},{\"name\":\"t477\",\"period\":1},{\"name\":\"t478\",\"period\":1},{\"name\":\"t479\",\"period\":1},{\"name" ++
    codes "\":\"t480\",\"period\":1},{\"name\":\"t481\",\"period\":1},{\"name\":\"t482\",\"period\":1},{\"name\":\"t483\",\"period\":1" ++
    codes "},{\"name\":\"t484\",\"period\":1},{\"name\":\"t485\",\"period\":1},{\"name\":\"t486\",\"period\":1},{\"name\":\"t487\",\"p" ++
    codes "eriod\":1},{\"name\":\"t488\",\"period\":1},{\"name\":\"t489\",\"period\":1},{\"name\":\"t490\",\"period\":1},{\"name\":\"" ++
    codes "t491\",\"period\":1},{\"name\":\"t492\",\"period\":1},{\"name\":\"t493\",\"period\":1},{\"name\":\"t494\",\"period\":1},{" ++
    codes "\"name\":\"t495\",\"period\":1},{\"name\":\"t496\",\"period\":1},{\"name\":\"t497\",\"period\":1},{\"name\":\"t498\",\"peri" ++
    codes "od\":1},{\"name\":\"t499\",\"period\":1},{\"name\":\"t500\",\"period\":1},{\"name\":\"t501\",\"period\":1},{\"name\":\"t50" ++
    codes "2\",\"period\":1},{\"name\":\"t503\",\"period\":1},{\"name\":\"t504\",\"period\":1},{\"name\":\"t505\",\"period\":1},{\"na" ++
    codes "me\":\"t506\",\"period\":1},{\"name\":\"t507\",\"period\":1},{\"name\":\"t508\",\"period\":1},{\"name\":\"t509\",\"period\"" ++
    codes ":1},{\"name\":\"t510\",\"period\":1},{\"name\":\"t511\",\"period\":1}]}]}" ++ 10 ∷
    []

abbrev pub limits_512_timers_transcript : List ℕ
limits_512_timers_transcript =
    codes "end 0" ++ 10 ∷
    []

-- cases/limits/513_timers.json
abbrev pub limits_513_timers_document : List ℕ
limits_513_timers_document =
    codes "{\"version\":1,\"nodes\":[{\"name\":\"n\",\"timers\":[{\"name\":\"t0\",\"period\":1},{\"name\":\"t1\",\"period\":1},{\"name" ++
    codes "\":\"t2\",\"period\":1},{\"name\":\"t3\",\"period\":1},{\"name\":\"t4\",\"period\":1},{\"name\":\"t5\",\"period\":1},{\"name" ++
    codes "\":\"t6\",\"period\":1},{\"name\":\"t7\",\"period\":1},{\"name\":\"t8\",\"period\":1},{\"name\":\"t9\",\"period\":1},{\"name" ++
    codes "\":\"t10\",\"period\":1},{\"name\":\"t11\",\"period\":1},{\"name\":\"t12\",\"period\":1},{\"name\":\"t13\",\"period\":1},{\"" ++
    codes "name\":\"t14\",\"period\":1},{\"name\":\"t15\",\"period\":1},{\"name\":\"t16\",\"period\":1},{\"name\":\"t17\",\"period\":1" ++
    codes "},{\"name\":\"t18\",\"period\":1},{\"name\":\"t19\",\"period\":1},{\"name\":\"t20\",\"period\":1},{\"name\":\"t21\",\"perio" ++
    codes "d\":1},{\"name\":\"t22\",\"period\":1},{\"name\":\"t23\",\"period\":1},{\"name\":\"t24\",\"period\":1},{\"name\":\"t25\",\"p" ++
    codes "eriod\":1},{\"name\":\"t26\",\"period\":1},{\"name\":\"t27\",\"period\":1},{\"name\":\"t28\",\"period\":1},{\"name\":\"t29" ++
    codes "\",\"period\":1},{\"name\":\"t30\",\"period\":1},{\"name\":\"t31\",\"period\":1},{\"name\":\"t32\",\"period\":1},{\"name\":" ++
    codes "\"t33\",\"period\":1},{\"name\":\"t34\",\"period\":1},{\"name\":\"t35\",\"period\":1},{\"name\":\"t36\",\"period\":1},{\"na" ++
    codes "me\":\"t37\",\"period\":1},{\"name\":\"t38\",\"period\":1},{\"name\":\"t39\",\"period\":1},{\"name\":\"t40\",\"period\":1}," ++
    codes "{\"name\":\"t41\",\"period\":1},{\"name\":\"t42\",\"period\":1},{\"name\":\"t43\",\"period\":1},{\"name\":\"t44\",\"period\"" ++
    codes ":1},{\"name\":\"t45\",\"period\":1},{\"name\":\"t46\",\"period\":1},{\"name\":\"t47\",\"period\":1},{\"name\":\"t48\",\"per" ++
    codes "iod\":1},{\"name\":\"t49\",\"period\":1},{\"name\":\"t50\",\"period\":1},{\"name\":\"t51\",\"period\":1},{\"name\":\"t52\"," ++
    codes "\"period\":1},{\"name\":\"t53\",\"period\":1},{\"name\":\"t54\",\"period\":1},{\"name\":\"t55\",\"period\":1},{\"name\":\"t" ++
    codes "56\",\"period\":1},{\"name\":\"t57\",\"period\":1},{\"name\":\"t58\",\"period\":1},{\"name\":\"t59\",\"period\":1},{\"name" ++
    codes "\":\"t60\",\"period\":1},{\"name\":\"t61\",\"period\":1},{\"name\":\"t62\",\"period\":1},{\"name\":\"t63\",\"period\":1},{\"" ++
    codes "name\":\"t64\",\"period\":1},{\"name\":\"t65\",\"period\":1},{\"name\":\"t66\",\"period\":1},{\"name\":\"t67\",\"period\":1" ++
    codes "},{\"name\":\"t68\",\"period\":1},{\"name\":\"t69\",\"period\":1},{\"name\":\"t70\",\"period\":1},{\"name\":\"t71\",\"perio" ++
    codes "d\":1},{\"name\":\"t72\",\"period\":1},{\"name\":\"t73\",\"period\":1},{\"name\":\"t74\",\"period\":1},{\"name\":\"t75\",\"p" ++
    codes "eriod\":1},{\"name\":\"t76\",\"period\":1},{\"name\":\"t77\",\"period\":1},{\"name\":\"t78\",\"period\":1},{\"name\":\"t79" ++
    codes "\",\"period\":1},{\"name\":\"t80\",\"period\":1},{\"name\":\"t81\",\"period\":1},{\"name\":\"t82\",\"period\":1},{\"name\":" ++
    codes "\"t83\",\"period\":1},{\"name\":\"t84\",\"period\":1},{\"name\":\"t85\",\"period\":1},{\"name\":\"t86\",\"period\":1},{\"na" ++
    codes "me\":\"t87\",\"period\":1},{\"name\":\"t88\",\"period\":1},{\"name\":\"t89\",\"period\":1},{\"name\":\"t90\",\"period\":1}," ++
    codes "{\"name\":\"t91\",\"period\":1},{\"name\":\"t92\",\"period\":1},{\"name\":\"t93\",\"period\":1},{\"name\":\"t94\",\"period\"" ++
    codes ":1},{\"name\":\"t95\",\"period\":1},{\"name\":\"t96\",\"period\":1},{\"name\":\"t97\",\"period\":1},{\"name\":\"t98\",\"per" ++
    codes "iod\":1},{\"name\":\"t99\",\"period\":1},{\"name\":\"t100\",\"period\":1},{\"name\":\"t101\",\"period\":1},{\"name\":\"t10" ++
    codes "2\",\"period\":1},{\"name\":\"t103\",\"period\":1},{\"name\":\"t104\",\"period\":1},{\"name\":\"t105\",\"period\":1},{\"na" ++
    codes "me\":\"t106\",\"period\":1},{\"name\":\"t107\",\"period\":1},{\"name\":\"t108\",\"period\":1},{\"name\":\"t109\",\"period\"" ++
    codes ":1},{\"name\":\"t110\",\"period\":1},{\"name\":\"t111\",\"period\":1},{\"name\":\"t112\",\"period\":1},{\"name\":\"t113\"," ++
    codes "\"period\":1},{\"name\":\"t114\",\"period\":1},{\"name\":\"t115\",\"period\":1},{\"name\":\"t116\",\"period\":1},{\"name\"" ++
    codes ":\"t117\",\"period\":1},{\"name\":\"t118\",\"period\":1},{\"name\":\"t119\",\"period\":1},{\"name\":\"t120\",\"period\":1}" ++
    codes ",{\"name\":\"t121\",\"period\":1},{\"name\":\"t122\",\"period\":1},{\"name\":\"t123\",\"period\":1},{\"name\":\"t124\",\"pe" ++
    codes "riod\":1},{\"name\":\"t125\",\"period\":1},{\"name\":\"t126\",\"period\":1},{\"name\":\"t127\",\"period\":1},{\"name\":\"t" ++
    codes "128\",\"period\":1},{\"name\":\"t129\",\"period\":1},{\"name\":\"t130\",\"period\":1},{\"name\":\"t131\",\"period\":1},{\"" ++
    codes "name\":\"t132\",\"period\":1},{\"name\":\"t133\",\"period\":1},{\"name\":\"t134\",\"period\":1},{\"name\":\"t135\",\"perio" ++
    codes "d\":1},{\"name\":\"t136\",\"period\":1},{\"name\":\"t137\",\"period\":1},{\"name\":\"t138\",\"period\":1},{\"name\":\"t139" ++
    codes "\",\"period\":1},{\"name\":\"t140\",\"period\":1},{\"name\":\"t141\",\"period\":1},{\"name\":\"t142\",\"period\":1},{\"nam" ++
    codes "e\":\"t143\",\"period\":1},{\"name\":\"t144\",\"period\":1},{\"name\":\"t145\",\"period\":1},{\"name\":\"t146\",\"period\":" ++
    codes "1},{\"name\":\"t147\",\"period\":1},{\"name\":\"t148\",\"period\":1},{\"name\":\"t149\",\"period\":1},{\"name\":\"t150\",\"" ++
    codes "period\":1},{\"name\":\"t151\",\"period\":1},{\"name\":\"t152\",\"period\":1},{\"name\":\"t153\",\"period\":1},{\"name\":" ++
    codes "\"t154\",\"period\":1},{\"name\":\"t155\",\"period\":1},{\"name\":\"t156\",\"period\":1},{\"name\":\"t157\",\"period\":1}," ++
    codes "{\"name\":\"t158\",\"period\":1},{\"name\":\"t159\",\"period\":1},{\"name\":\"t160\",\"period\":1},{\"name\":\"t161\",\"per" ++
    codes "iod\":1},{\"name\":\"t162\",\"period\":1},{\"name\":\"t163\",\"period\":1},{\"name\":\"t164\",\"period\":1},{\"name\":\"t1" ++
    codes "65\",\"period\":1},{\"name\":\"t166\",\"period\":1},{\"name\":\"t167\",\"period\":1},{\"name\":\"t168\",\"period\":1},{\"n" ++
    codes "ame\":\"t169\",\"period\":1},{\"name\":\"t170\",\"period\":1},{\"name\":\"t171\",\"period\":1},{\"name\":\"t172\",\"period" ++
    codes "\":1},{\"name\":\"t173\",\"period\":1},{\"name\":\"t174\",\"period\":1},{\"name\":\"t175\",\"period\":1},{\"name\":\"t176\"" ++
    codes ",\"period\":1},{\"name\":\"t177\",\"period\":1},{\"name\":\"t178\",\"period\":1},{\"name\":\"t179\",\"period\":1},{\"name" ++
    codes "\":\"t180\",\"period\":1},{\"name\":\"t181\",\"period\":1},{\"name\":\"t182\",\"period\":1},{\"name\":\"t183\",\"period\":1" ++
    codes "},{\"name\":\"t184\",\"period\":1},{\"name\":\"t185\",\"period\":1},{\"name\":\"t186\",\"period\":1},{\"name\":\"t187\",\"p" ++
    codes "eriod\":1},{\"name\":\"t188\",\"period\":1},{\"name\":\"t189\",\"period\":1},{\"name\":\"t190\",\"period\":1},{\"name\":\"" ++
    codes "t191\",\"period\":1},{\"name\":\"t192\",\"period\":1},{\"name\":\"t193\",\"period\":1},{\"name\":\"t194\",\"period\":1},{" ++
    codes "\"name\":\"t195\",\"period\":1},{\"name\":\"t196\",\"period\":1},{\"name\":\"t197\",\"period\":1},{\"name\":\"t198\",\"peri" ++
    codes "od\":1},{\"name\":\"t199\",\"period\":1},{\"name\":\"t200\",\"period\":1},{\"name\":\"t201\",\"period\":1},{\"name\":\"t20" ++
    codes "2\",\"period\":1},{\"name\":\"t203\",\"period\":1},{\"name\":\"t204\",\"period\":1},{\"name\":\"t205\",\"period\":1},{\"na" ++
    codes "me\":\"t206\",\"period\":1},{\"name\":\"t207\",\"period\":1},{\"name\":\"t208\",\"period\":1},{\"name\":\"t209\",\"period\"" ++
    codes ":1},{\"name\":\"t210\",\"period\":1},{\"name\":\"t211\",\"period\":1},{\"name\":\"t212\",\"period\":1},{\"name\":\"t213\"," ++
    codes "\"period\":1},{\"name\":\"t214\",\"period\":1},{\"name\":\"t215\",\"period\":1},{\"name\":\"t216\",\"period\":1},{\"name\"" ++
    codes ":\"t217\",\"period\":1},{\"name\":\"t218\",\"period\":1},{\"name\":\"t219\",\"period\":1},{\"name\":\"t220\",\"period\":1}" ++
    codes ",{\"name\":\"t221\",\"period\":1},{\"name\":\"t222\",\"period\":1},{\"name\":\"t223\",\"period\":1},{\"name\":\"t224\",\"pe" ++
    codes "riod\":1},{\"name\":\"t225\",\"period\":1},{\"name\":\"t226\",\"period\":1},{\"name\":\"t227\",\"period\":1},{\"name\":\"t" ++
    codes "228\",\"period\":1},{\"name\":\"t229\",\"period\":1},{\"name\":\"t230\",\"period\":1},{\"name\":\"t231\",\"period\":1},{\"" ++
    codes "name\":\"t232\",\"period\":1},{\"name\":\"t233\",\"period\":1},{\"name\":\"t234\",\"period\":1},{\"name\":\"t235\",\"perio" ++
    codes "d\":1},{\"name\":\"t236\",\"period\":1},{\"name\":\"t237\",\"period\":1},{\"name\":\"t238\",\"period\":1},{\"name\":\"t239" ++
    codes "\",\"period\":1},{\"name\":\"t240\",\"period\":1},{\"name\":\"t241\",\"period\":1},{\"name\":\"t242\",\"period\":1},{\"nam" ++
    codes "e\":\"t243\",\"period\":1},{\"name\":\"t244\",\"period\":1},{\"name\":\"t245\",\"period\":1},{\"name\":\"t246\",\"period\":" ++
    codes "1},{\"name\":\"t247\",\"period\":1},{\"name\":\"t248\",\"period\":1},{\"name\":\"t249\",\"period\":1},{\"name\":\"t250\",\"" ++
    codes "period\":1},{\"name\":\"t251\",\"period\":1},{\"name\":\"t252\",\"period\":1},{\"name\":\"t253\",\"period\":1},{\"name\":" ++
    codes "\"t254\",\"period\":1},{\"name\":\"t255\",\"period\":1},{\"name\":\"t256\",\"period\":1},{\"name\":\"t257\",\"period\":1}," ++
    codes "{\"name\":\"t258\",\"period\":1},{\"name\":\"t259\",\"period\":1},{\"name\":\"t260\",\"period\":1},{\"name\":\"t261\",\"per" ++
    codes "iod\":1},{\"name\":\"t262\",\"period\":1},{\"name\":\"t263\",\"period\":1},{\"name\":\"t264\",\"period\":1},{\"name\":\"t2" ++
    codes "65\",\"period\":1},{\"name\":\"t266\",\"period\":1},{\"name\":\"t267\",\"period\":1},{\"name\":\"t268\",\"period\":1},{\"n" ++
    codes "ame\":\"t269\",\"period\":1},{\"name\":\"t270\",\"period\":1},{\"name\":\"t271\",\"period\":1},{\"name\":\"t272\",\"period" ++
    codes "\":1},{\"name\":\"t273\",\"period\":1},{\"name\":\"t274\",\"period\":1},{\"name\":\"t275\",\"period\":1},{\"name\":\"t276\"" ++
    codes ",\"period\":1},{\"name\":\"t277\",\"period\":1},{\"name\":\"t278\",\"period\":1},{\"name\":\"t279\",\"period\":1},{\"name" ++
    codes "\":\"t280\",\"period\":1},{\"name\":\"t281\",\"period\":1},{\"name\":\"t282\",\"period\":1},{\"name\":\"t283\",\"period\":1" ++
    codes "},{\"name\":\"t284\",\"period\":1},{\"name\":\"t285\",\"period\":1},{\"name\":\"t286\",\"period\":1},{\"name\":\"t287\",\"p" ++
    codes "eriod\":1},{\"name\":\"t288\",\"period\":1},{\"name\":\"t289\",\"period\":1},{\"name\":\"t290\",\"period\":1},{\"name\":\"" ++
    codes "t291\",\"period\":1},{\"name\":\"t292\",\"period\":1},{\"name\":\"t293\",\"period\":1},{\"name\":\"t294\",\"period\":1},{" ++
    codes "\"name\":\"t295\",\"period\":1},{\"name\":\"t296\",\"period\":1},{\"name\":\"t297\",\"period\":1},{\"name\":\"t298\",\"peri" ++
    codes "od\":1},{\"name\":\"t299\",\"period\":1},{\"name\":\"t300\",\"period\":1},{\"name\":\"t301\",\"period\":1},{\"name\":\"t30" ++
    codes "2\",\"period\":1},{\"name\":\"t303\",\"period\":1},{\"name\":\"t304\",\"period\":1},{\"name\":\"t305\",\"period\":1},{\"na" ++
    codes "me\":\"t306\",\"period\":1},{\"name\":\"t307\",\"period\":1},{\"name\":\"t308\",\"period\":1},{\"name\":\"t309\",\"period\"" ++
    codes ":1},{\"name\":\"t310\",\"period\":1},{\"name\":\"t311\",\"period\":1},{\"name\":\"t312\",\"period\":1},{\"name\":\"t313\"," ++
    codes "\"period\":1},{\"name\":\"t314\",\"period\":1},{\"name\":\"t315\",\"period\":1},{\"name\":\"t316\",\"period\":1},{\"name\"" ++
    codes ":\"t317\",\"period\":1},{\"name\":\"t318\",\"period\":1},{\"name\":\"t319\",\"period\":1},{\"name\":\"t320\",\"period\":1}" ++
    codes ",{\"name\":\"t321\",\"period\":1},{\"name\":\"t322\",\"period\":1},{\"name\":\"t323\",\"period\":1},{\"name\":\"t324\",\"pe" ++
    codes "riod\":1},{\"name\":\"t325\",\"period\":1},{\"name\":\"t326\",\"period\":1},{\"name\":\"t327\",\"period\":1},{\"name\":\"t" ++
    codes "328\",\"period\":1},{\"name\":\"t329\",\"period\":1},{\"name\":\"t330\",\"period\":1},{\"name\":\"t331\",\"period\":1},{\"" ++
    codes "name\":\"t332\",\"period\":1},{\"name\":\"t333\",\"period\":1},{\"name\":\"t334\",\"period\":1},{\"name\":\"t335\",\"perio" ++
    codes "d\":1},{\"name\":\"t336\",\"period\":1},{\"name\":\"t337\",\"period\":1},{\"name\":\"t338\",\"period\":1},{\"name\":\"t339" ++
    codes "\",\"period\":1},{\"name\":\"t340\",\"period\":1},{\"name\":\"t341\",\"period\":1},{\"name\":\"t342\",\"period\":1},{\"nam" ++
    codes "e\":\"t343\",\"period\":1},{\"name\":\"t344\",\"period\":1},{\"name\":\"t345\",\"period\":1},{\"name\":\"t346\",\"period\":" ++
    codes "1},{\"name\":\"t347\",\"period\":1},{\"name\":\"t348\",\"period\":1},{\"name\":\"t349\",\"period\":1},{\"name\":\"t350\",\"" ++
    codes "period\":1},{\"name\":\"t351\",\"period\":1},{\"name\":\"t352\",\"period\":1},{\"name\":\"t353\",\"period\":1},{\"name\":" ++
    codes "\"t354\",\"period\":1},{\"name\":\"t355\",\"period\":1},{\"name\":\"t356\",\"period\":1},{\"name\":\"t357\",\"period\":1}," ++
    codes "{\"name\":\"t358\",\"period\":1},{\"name\":\"t359\",\"period\":1},{\"name\":\"t360\",\"period\":1},{\"name\":\"t361\",\"per" ++
    codes "iod\":1},{\"name\":\"t362\",\"period\":1},{\"name\":\"t363\",\"period\":1},{\"name\":\"t364\",\"period\":1},{\"name\":\"t3" ++
    codes "65\",\"period\":1},{\"name\":\"t366\",\"period\":1},{\"name\":\"t367\",\"period\":1},{\"name\":\"t368\",\"period\":1},{\"n" ++
    codes "ame\":\"t369\",\"period\":1},{\"name\":\"t370\",\"period\":1},{\"name\":\"t371\",\"period\":1},{\"name\":\"t372\",\"period" ++
    codes "\":1},{\"name\":\"t373\",\"period\":1},{\"name\":\"t374\",\"period\":1},{\"name\":\"t375\",\"period\":1},{\"name\":\"t376\"" ++
    codes ",\"period\":1},{\"name\":\"t377\",\"period\":1},{\"name\":\"t378\",\"period\":1},{\"name\":\"t379\",\"period\":1},{\"name" ++
    codes "\":\"t380\",\"period\":1},{\"name\":\"t381\",\"period\":1},{\"name\":\"t382\",\"period\":1},{\"name\":\"t383\",\"period\":1" ++
    codes "},{\"name\":\"t384\",\"period\":1},{\"name\":\"t385\",\"period\":1},{\"name\":\"t386\",\"period\":1},{\"name\":\"t387\",\"p" ++
    codes "eriod\":1},{\"name\":\"t388\",\"period\":1},{\"name\":\"t389\",\"period\":1},{\"name\":\"t390\",\"period\":1},{\"name\":\"" ++
    codes "t391\",\"period\":1},{\"name\":\"t392\",\"period\":1},{\"name\":\"t393\",\"period\":1},{\"name\":\"t394\",\"period\":1},{" ++
    codes "\"name\":\"t395\",\"period\":1},{\"name\":\"t396\",\"period\":1},{\"name\":\"t397\",\"period\":1},{\"name\":\"t398\",\"peri" ++
    codes "od\":1},{\"name\":\"t399\",\"period\":1},{\"name\":\"t400\",\"period\":1},{\"name\":\"t401\",\"period\":1},{\"name\":\"t40" ++
    codes "2\",\"period\":1},{\"name\":\"t403\",\"period\":1},{\"name\":\"t404\",\"period\":1},{\"name\":\"t405\",\"period\":1},{\"na" ++
    codes "me\":\"t406\",\"period\":1},{\"name\":\"t407\",\"period\":1},{\"name\":\"t408\",\"period\":1},{\"name\":\"t409\",\"period\"" ++
    codes ":1},{\"name\":\"t410\",\"period\":1},{\"name\":\"t411\",\"period\":1},{\"name\":\"t412\",\"period\":1},{\"name\":\"t413\"," ++
    codes "\"period\":1},{\"name\":\"t414\",\"period\":1},{\"name\":\"t415\",\"period\":1},{\"name\":\"t416\",\"period\":1},{\"name\"" ++
    codes ":\"t417\",\"period\":1},{\"name\":\"t418\",\"period\":1},{\"name\":\"t419\",\"period\":1},{\"name\":\"t420\",\"period\":1}" ++
    codes ",{\"name\":\"t421\",\"period\":1},{\"name\":\"t422\",\"period\":1},{\"name\":\"t423\",\"period\":1},{\"name\":\"t424\",\"pe" ++
    codes "riod\":1},{\"name\":\"t425\",\"period\":1},{\"name\":\"t426\",\"period\":1},{\"name\":\"t427\",\"period\":1},{\"name\":\"t" ++
    codes "428\",\"period\":1},{\"name\":\"t429\",\"period\":1},{\"name\":\"t430\",\"period\":1},{\"name\":\"t431\",\"period\":1},{\"" ++
    codes "name\":\"t432\",\"period\":1},{\"name\":\"t433\",\"period\":1},{\"name\":\"t434\",\"period\":1},{\"name\":\"t435\",\"perio" ++
    codes "d\":1},{\"name\":\"t436\",\"period\":1},{\"name\":\"t437\",\"period\":1},{\"name\":\"t438\",\"period\":1},{\"name\":\"t439" ++
    codes "\",\"period\":1},{\"name\":\"t440\",\"period\":1},{\"name\":\"t441\",\"period\":1},{\"name\":\"t442\",\"period\":1},{\"nam" ++
    codes "e\":\"t443\",\"period\":1},{\"name\":\"t444\",\"period\":1},{\"name\":\"t445\",\"period\":1},{\"name\":\"t446\",\"period\":" ++
    codes "1},{\"name\":\"t447\",\"period\":1},{\"name\":\"t448\",\"period\":1},{\"name\":\"t449\",\"period\":1},{\"name\":\"t450\",\"" ++
    codes "period\":1},{\"name\":\"t451\",\"period\":1},{\"name\":\"t452\",\"period\":1},{\"name\":\"t453\",\"period\":1},{\"name\":" ++
    codes "\"t454\",\"period\":1},{\"name\":\"t455\",\"period\":1},{\"name\":\"t456\",\"period\":1},{\"name\":\"t457\",\"period\":1}," ++
    codes "{\"name\":\"t458\",\"period\":1},{\"name\":\"t459\",\"period\":1},{\"name\":\"t460\",\"period\":1},{\"name\":\"t461\",\"per" ++
    codes "iod\":1},{\"name\":\"t462\",\"period\":1},{\"name\":\"t463\",\"period\":1},{\"name\":\"t464\",\"period\":1},{\"name\":\"t4" ++
    codes "65\",\"period\":1},{\"name\":\"t466\",\"period\":1},{\"name\":\"t467\",\"period\":1},{\"name\":\"t468\",\"period\":1},{\"n" ++
    codes "ame\":\"t469\",\"period\":1},{\"name\":\"t470\",\"period\":1},{\"name\":\"t471\",\"period\":1},{\"name\":\"t472\",\"period" ++
    codes "\":1},{\"name\":\"t473\",\"period\":1},{\"name\":\"t474\",\"period\":1},{\"name\":\"t475\",\"period\":1},{\"name\":\"t476\"" ++
    codes ",\"period\":1},{\"name\":\"t477\",\"period\":1},{\"name\":\"t478\",\"period\":1},{\"name\":\"t479\",\"period\":1},{\"name" ++
    codes "\":\"t480\",\"period\":1},{\"name\":\"t481\",\"period\":1},{\"name\":\"t482\",\"period\":1},{\"name\":\"t483\",\"period\":1" ++
    codes "},{\"name\":\"t484\",\"period\":1},{\"name\":\"t485\",\"period\":1},{\"name\":\"t486\",\"period\":1},{\"name\":\"t487\",\"p" ++
    codes "eriod\":1},{\"name\":\"t488\",\"period\":1},{\"name\":\"t489\",\"period\":1},{\"name\":\"t490\",\"period\":1},{\"name\":\"" ++
    codes "t491\",\"period\":1},{\"name\":\"t492\",\"period\":1},{\"name\":\"t493\",\"period\":1},{\"name\":\"t494\",\"period\":1},{" ++
    codes "\"name\":\"t495\",\"period\":1},{\"name\":\"t496\",\"period\":1},{\"name\":\"t497\",\"period\":1},{\"name\":\"t498\",\"peri" ++
    codes "od\":1},{\"name\":\"t499\",\"period\":1},{\"name\":\"t500\",\"period\":1},{\"name\":\"t501\",\"period\":1},{\"name\":\"t50" ++
    codes "2\",\"period\":1},{\"name\":\"t503\",\"period\":1},{\"name\":\"t504\",\"period\":1},{\"name\":\"t505\",\"period\":1},{\"na" ++
    codes "me\":\"t506\",\"period\":1},{\"name\":\"t507\",\"period\":1},{\"name\":\"t508\",\"period\":1},{\"name\":\"t509\",\"period\"" ++
    codes ":1},{\"name\":\"t510\",\"period\":1},{\"name\":\"t511\",\"period\":1},{\"name\":\"t512\",\"period\":1}]}]}" ++ 10 ∷
    []

-- cases/limits/513_timers_of_27_nodes.json
abbrev pub limits_513_timers_of_27_nodes_document : List ℕ
limits_513_timers_of_27_nodes_document =
    codes "{\"version\":1,\"nodes\":[{\"name\":\"n0\",\"timers\":[{\"name\":\"t0/0\",\"period\":1,\"script\":[]},{\"name\":\"t0/1\",\"" ++
    codes "period\":1,\"script\":[]},{\"name\":\"t0/2\",\"period\":1,\"script\":[]},{\"name\":\"t0/3\",\"period\":1,\"script\":[]}" ++
    codes ",{\"name\":\"t0/4\",\"period\":1,\"script\":[]},{\"name\":\"t0/5\",\"period\":1,\"script\":[]},{\"name\":\"t0/6\",\"perio" ++
    codes "d\":1,\"script\":[]},{\"name\":\"t0/7\",\"period\":1,\"script\":[]},{\"name\":\"t0/8\",\"period\":1,\"script\":[]},{\"na" ++
    codes "me\":\"t0/9\",\"period\":1,\"script\":[]},{\"name\":\"t0/10\",\"period\":1,\"script\":[]},{\"name\":\"t0/11\",\"period\":" ++
    codes "1,\"script\":[]},{\"name\":\"t0/12\",\"period\":1,\"script\":[]},{\"name\":\"t0/13\",\"period\":1,\"script\":[]},{\"nam" ++
    codes "e\":\"t0/14\",\"period\":1,\"script\":[]},{\"name\":\"t0/15\",\"period\":1,\"script\":[]},{\"name\":\"t0/16\",\"period\":" ++
    codes "1,\"script\":[]},{\"name\":\"t0/17\",\"period\":1,\"script\":[]},{\"name\":\"t0/18\",\"period\":1,\"script\":[]}]},{\"n" ++
    codes "ame\":\"n1\",\"timers\":[{\"name\":\"t1/0\",\"period\":1,\"script\":[]},{\"name\":\"t1/1\",\"period\":1,\"script\":[]},{\"" ++
    codes "name\":\"t1/2\",\"period\":1,\"script\":[]},{\"name\":\"t1/3\",\"period\":1,\"script\":[]},{\"name\":\"t1/4\",\"period\":" ++
    codes "1,\"script\":[]},{\"name\":\"t1/5\",\"period\":1,\"script\":[]},{\"name\":\"t1/6\",\"period\":1,\"script\":[]},{\"name\"" ++
    codes ":\"t1/7\",\"period\":1,\"script\":[]},{\"name\":\"t1/8\",\"period\":1,\"script\":[]},{\"name\":\"t1/9\",\"period\":1,\"sc" ++
    codes "ript\":[]},{\"name\":\"t1/10\",\"period\":1,\"script\":[]},{\"name\":\"t1/11\",\"period\":1,\"script\":[]},{\"name\":\"t" ++
    codes "1/12\",\"period\":1,\"script\":[]},{\"name\":\"t1/13\",\"period\":1,\"script\":[]},{\"name\":\"t1/14\",\"period\":1,\"sc" ++
    codes "ript\":[]},{\"name\":\"t1/15\",\"period\":1,\"script\":[]},{\"name\":\"t1/16\",\"period\":1,\"script\":[]},{\"name\":\"t" ++
    codes "1/17\",\"period\":1,\"script\":[]},{\"name\":\"t1/18\",\"period\":1,\"script\":[]}]},{\"name\":\"n2\",\"timers\":[{\"nam" ++
    codes "e\":\"t2/0\",\"period\":1,\"script\":[]},{\"name\":\"t2/1\",\"period\":1,\"script\":[]},{\"name\":\"t2/2\",\"period\":1,\"" ++
    codes "script\":[]},{\"name\":\"t2/3\",\"period\":1,\"script\":[]},{\"name\":\"t2/4\",\"period\":1,\"script\":[]},{\"name\":\"t" ++
    codes "2/5\",\"period\":1,\"script\":[]},{\"name\":\"t2/6\",\"period\":1,\"script\":[]},{\"name\":\"t2/7\",\"period\":1,\"scrip" ++
    codes "t\":[]},{\"name\":\"t2/8\",\"period\":1,\"script\":[]},{\"name\":\"t2/9\",\"period\":1,\"script\":[]},{\"name\":\"t2/10\"" ++
    codes ",\"period\":1,\"script\":[]},{\"name\":\"t2/11\",\"period\":1,\"script\":[]},{\"name\":\"t2/12\",\"period\":1,\"script\"" ++
    codes ":[]},{\"name\":\"t2/13\",\"period\":1,\"script\":[]},{\"name\":\"t2/14\",\"period\":1,\"script\":[]},{\"name\":\"t2/15\"" ++
    codes ",\"period\":1,\"script\":[]},{\"name\":\"t2/16\",\"period\":1,\"script\":[]},{\"name\":\"t2/17\",\"period\":1,\"script\"" ++
    codes ":[]},{\"name\":\"t2/18\",\"period\":1,\"script\":[]}]},{\"name\":\"n3\",\"timers\":[{\"name\":\"t3/0\",\"period\":1,\"scr" ++
    codes "ipt\":[]},{\"name\":\"t3/1\",\"period\":1,\"script\":[]},{\"name\":\"t3/2\",\"period\":1,\"script\":[]},{\"name\":\"t3/3" ++
    codes "\",\"period\":1,\"script\":[]},{\"name\":\"t3/4\",\"period\":1,\"script\":[]},{\"name\":\"t3/5\",\"period\":1,\"script\":" ++
    codes "[]},{\"name\":\"t3/6\",\"period\":1,\"script\":[]},{\"name\":\"t3/7\",\"period\":1,\"script\":[]},{\"name\":\"t3/8\",\"pe" ++
    codes "riod\":1,\"script\":[]},{\"name\":\"t3/9\",\"period\":1,\"script\":[]},{\"name\":\"t3/10\",\"period\":1,\"script\":[]}," ++
    codes "{\"name\":\"t3/11\",\"period\":1,\"script\":[]},{\"name\":\"t3/12\",\"period\":1,\"script\":[]},{\"name\":\"t3/13\",\"per" ++
    codes "iod\":1,\"script\":[]},{\"name\":\"t3/14\",\"period\":1,\"script\":[]},{\"name\":\"t3/15\",\"period\":1,\"script\":[]}," ++
    codes "{\"name\":\"t3/16\",\"period\":1,\"script\":[]},{\"name\":\"t3/17\",\"period\":1,\"script\":[]},{\"name\":\"t3/18\",\"per" ++
    codes "iod\":1,\"script\":[]}]},{\"name\":\"n4\",\"timers\":[{\"name\":\"t4/0\",\"period\":1,\"script\":[]},{\"name\":\"t4/1\",\"" ++
    codes "period\":1,\"script\":[]},{\"name\":\"t4/2\",\"period\":1,\"script\":[]},{\"name\":\"t4/3\",\"period\":1,\"script\":[]}" ++
    codes ",{\"name\":\"t4/4\",\"period\":1,\"script\":[]},{\"name\":\"t4/5\",\"period\":1,\"script\":[]},{\"name\":\"t4/6\",\"perio" ++
    codes "d\":1,\"script\":[]},{\"name\":\"t4/7\",\"period\":1,\"script\":[]},{\"name\":\"t4/8\",\"period\":1,\"script\":[]},{\"na" ++
    codes "me\":\"t4/9\",\"period\":1,\"script\":[]},{\"name\":\"t4/10\",\"period\":1,\"script\":[]},{\"name\":\"t4/11\",\"period\":" ++
    codes "1,\"script\":[]},{\"name\":\"t4/12\",\"period\":1,\"script\":[]},{\"name\":\"t4/13\",\"period\":1,\"script\":[]},{\"nam" ++
    codes "e\":\"t4/14\",\"period\":1,\"script\":[]},{\"name\":\"t4/15\",\"period\":1,\"script\":[]},{\"name\":\"t4/16\",\"period\":" ++
    codes "1,\"script\":[]},{\"name\":\"t4/17\",\"period\":1,\"script\":[]},{\"name\":\"t4/18\",\"period\":1,\"script\":[]}]},{\"n" ++
    codes "ame\":\"n5\",\"timers\":[{\"name\":\"t5/0\",\"period\":1,\"script\":[]},{\"name\":\"t5/1\",\"period\":1,\"script\":[]},{\"" ++
    codes "name\":\"t5/2\",\"period\":1,\"script\":[]},{\"name\":\"t5/3\",\"period\":1,\"script\":[]},{\"name\":\"t5/4\",\"period\":" ++
    codes "1,\"script\":[]},{\"name\":\"t5/5\",\"period\":1,\"script\":[]},{\"name\":\"t5/6\",\"period\":1,\"script\":[]},{\"name\"" ++
    codes ":\"t5/7\",\"period\":1,\"script\":[]},{\"name\":\"t5/8\",\"period\":1,\"script\":[]},{\"name\":\"t5/9\",\"period\":1,\"sc" ++
    codes "ript\":[]},{\"name\":\"t5/10\",\"period\":1,\"script\":[]},{\"name\":\"t5/11\",\"period\":1,\"script\":[]},{\"name\":\"t" ++
    codes "5/12\",\"period\":1,\"script\":[]},{\"name\":\"t5/13\",\"period\":1,\"script\":[]},{\"name\":\"t5/14\",\"period\":1,\"sc" ++
    codes "ript\":[]},{\"name\":\"t5/15\",\"period\":1,\"script\":[]},{\"name\":\"t5/16\",\"period\":1,\"script\":[]},{\"name\":\"t" ++
    codes "5/17\",\"period\":1,\"script\":[]},{\"name\":\"t5/18\",\"period\":1,\"script\":[]}]},{\"name\":\"n6\",\"timers\":[{\"nam" ++
    codes "e\":\"t6/0\",\"period\":1,\"script\":[]},{\"name\":\"t6/1\",\"period\":1,\"script\":[]},{\"name\":\"t6/2\",\"period\":1,\"" ++
    codes "script\":[]},{\"name\":\"t6/3\",\"period\":1,\"script\":[]},{\"name\":\"t6/4\",\"period\":1,\"script\":[]},{\"name\":\"t" ++
    codes "6/5\",\"period\":1,\"script\":[]},{\"name\":\"t6/6\",\"period\":1,\"script\":[]},{\"name\":\"t6/7\",\"period\":1,\"scrip" ++
    codes "t\":[]},{\"name\":\"t6/8\",\"period\":1,\"script\":[]},{\"name\":\"t6/9\",\"period\":1,\"script\":[]},{\"name\":\"t6/10\"" ++
    codes ",\"period\":1,\"script\":[]},{\"name\":\"t6/11\",\"period\":1,\"script\":[]},{\"name\":\"t6/12\",\"period\":1,\"script\"" ++
    codes ":[]},{\"name\":\"t6/13\",\"period\":1,\"script\":[]},{\"name\":\"t6/14\",\"period\":1,\"script\":[]},{\"name\":\"t6/15\"" ++
    codes ",\"period\":1,\"script\":[]},{\"name\":\"t6/16\",\"period\":1,\"script\":[]},{\"name\":\"t6/17\",\"period\":1,\"script\"" ++
    codes ":[]},{\"name\":\"t6/18\",\"period\":1,\"script\":[]}]},{\"name\":\"n7\",\"timers\":[{\"name\":\"t7/0\",\"period\":1,\"scr" ++
    codes "ipt\":[]},{\"name\":\"t7/1\",\"period\":1,\"script\":[]},{\"name\":\"t7/2\",\"period\":1,\"script\":[]},{\"name\":\"t7/3" ++
    codes "\",\"period\":1,\"script\":[]},{\"name\":\"t7/4\",\"period\":1,\"script\":[]},{\"name\":\"t7/5\",\"period\":1,\"script\":" ++
    codes "[]},{\"name\":\"t7/6\",\"period\":1,\"script\":[]},{\"name\":\"t7/7\",\"period\":1,\"script\":[]},{\"name\":\"t7/8\",\"pe" ++
    codes "riod\":1,\"script\":[]},{\"name\":\"t7/9\",\"period\":1,\"script\":[]},{\"name\":\"t7/10\",\"period\":1,\"script\":[]}," ++
    codes "{\"name\":\"t7/11\",\"period\":1,\"script\":[]},{\"name\":\"t7/12\",\"period\":1,\"script\":[]},{\"name\":\"t7/13\",\"per" ++
    codes "iod\":1,\"script\":[]},{\"name\":\"t7/14\",\"period\":1,\"script\":[]},{\"name\":\"t7/15\",\"period\":1,\"script\":[]}," ++
    codes "{\"name\":\"t7/16\",\"period\":1,\"script\":[]},{\"name\":\"t7/17\",\"period\":1,\"script\":[]},{\"name\":\"t7/18\",\"per" ++
    codes "iod\":1,\"script\":[]}]},{\"name\":\"n8\",\"timers\":[{\"name\":\"t8/0\",\"period\":1,\"script\":[]},{\"name\":\"t8/1\",\"" ++
    codes "period\":1,\"script\":[]},{\"name\":\"t8/2\",\"period\":1,\"script\":[]},{\"name\":\"t8/3\",\"period\":1,\"script\":[]}" ++
    codes ",{\"name\":\"t8/4\",\"period\":1,\"script\":[]},{\"name\":\"t8/5\",\"period\":1,\"script\":[]},{\"name\":\"t8/6\",\"perio" ++
    codes "d\":1,\"script\":[]},{\"name\":\"t8/7\",\"period\":1,\"script\":[]},{\"name\":\"t8/8\",\"period\":1,\"script\":[]},{\"na" ++
    codes "me\":\"t8/9\",\"period\":1,\"script\":[]},{\"name\":\"t8/10\",\"period\":1,\"script\":[]},{\"name\":\"t8/11\",\"period\":" ++
    codes "1,\"script\":[]},{\"name\":\"t8/12\",\"period\":1,\"script\":[]},{\"name\":\"t8/13\",\"period\":1,\"script\":[]},{\"nam" ++
    codes "e\":\"t8/14\",\"period\":1,\"script\":[]},{\"name\":\"t8/15\",\"period\":1,\"script\":[]},{\"name\":\"t8/16\",\"period\":" ++
    codes "1,\"script\":[]},{\"name\":\"t8/17\",\"period\":1,\"script\":[]},{\"name\":\"t8/18\",\"period\":1,\"script\":[]}]},{\"n" ++
    codes "ame\":\"n9\",\"timers\":[{\"name\":\"t9/0\",\"period\":1,\"script\":[]},{\"name\":\"t9/1\",\"period\":1,\"script\":[]},{\"" ++
    codes "name\":\"t9/2\",\"period\":1,\"script\":[]},{\"name\":\"t9/3\",\"period\":1,\"script\":[]},{\"name\":\"t9/4\",\"period\":" ++
    codes "1,\"script\":[]},{\"name\":\"t9/5\",\"period\":1,\"script\":[]},{\"name\":\"t9/6\",\"period\":1,\"script\":[]},{\"name\"" ++
    codes ":\"t9/7\",\"period\":1,\"script\":[]},{\"name\":\"t9/8\",\"period\":1,\"script\":[]},{\"name\":\"t9/9\",\"period\":1,\"sc" ++
    codes "ript\":[]},{\"name\":\"t9/10\",\"period\":1,\"script\":[]},{\"name\":\"t9/11\",\"period\":1,\"script\":[]},{\"name\":\"t" ++
    codes "9/12\",\"period\":1,\"script\":[]},{\"name\":\"t9/13\",\"period\":1,\"script\":[]},{\"name\":\"t9/14\",\"period\":1,\"sc" ++
    codes "ript\":[]},{\"name\":\"t9/15\",\"period\":1,\"script\":[]},{\"name\":\"t9/16\",\"period\":1,\"script\":[]},{\"name\":\"t" ++
    codes "9/17\",\"period\":1,\"script\":[]},{\"name\":\"t9/18\",\"period\":1,\"script\":[]}]},{\"name\":\"n10\",\"timers\":[{\"na" ++
    codes "me\":\"t10/0\",\"period\":1,\"script\":[]},{\"name\":\"t10/1\",\"period\":1,\"script\":[]},{\"name\":\"t10/2\",\"period\"" ++
    codes ":1,\"script\":[]},{\"name\":\"t10/3\",\"period\":1,\"script\":[]},{\"name\":\"t10/4\",\"period\":1,\"script\":[]},{\"na" ++
    codes "me\":\"t10/5\",\"period\":1,\"script\":[]},{\"name\":\"t10/6\",\"period\":1,\"script\":[]},{\"name\":\"t10/7\",\"period\"" ++
    codes ":1,\"script\":[]},{\"name\":\"t10/8\",\"period\":1,\"script\":[]},{\"name\":\"t10/9\",\"period\":1,\"script\":[]},{\"na" ++
    codes "me\":\"t10/10\",\"period\":1,\"script\":[]},{\"name\":\"t10/11\",\"period\":1,\"script\":[]},{\"name\":\"t10/12\",\"peri" ++
    codes "od\":1,\"script\":[]},{\"name\":\"t10/13\",\"period\":1,\"script\":[]},{\"name\":\"t10/14\",\"period\":1,\"script\":[]}" ++
    codes ",{\"name\":\"t10/15\",\"period\":1,\"script\":[]},{\"name\":\"t10/16\",\"period\":1,\"script\":[]},{\"name\":\"t10/17\"," ++
    codes "\"period\":1,\"script\":[]},{\"name\":\"t10/18\",\"period\":1,\"script\":[]}]},{\"name\":\"n11\",\"timers\":[{\"name\":\"" ++
    codes "t11/0\",\"period\":1,\"script\":[]},{\"name\":\"t11/1\",\"period\":1,\"script\":[]},{\"name\":\"t11/2\",\"period\":1,\"s" ++
    codes "cript\":[]},{\"name\":\"t11/3\",\"period\":1,\"script\":[]},{\"name\":\"t11/4\",\"period\":1,\"script\":[]},{\"name\":\"" ++
    codes "t11/5\",\"period\":1,\"script\":[]},{\"name\":\"t11/6\",\"period\":1,\"script\":[]},{\"name\":\"t11/7\",\"period\":1,\"s" ++
    codes "cript\":[]},{\"name\":\"t11/8\",\"period\":1,\"script\":[]},{\"name\":\"t11/9\",\"period\":1,\"script\":[]},{\"name\":\"" ++
    codes "t11/10\",\"period\":1,\"script\":[]},{\"name\":\"t11/11\",\"period\":1,\"script\":[]},{\"name\":\"t11/12\",\"period\":1" ++
    codes ",\"script\":[]},{\"name\":\"t11/13\",\"period\":1,\"script\":[]},{\"name\":\"t11/14\",\"period\":1,\"script\":[]},{\"na" ++
    codes "me\":\"t11/15\",\"period\":1,\"script\":[]},{\"name\":\"t11/16\",\"period\":1,\"script\":[]},{\"name\":\"t11/17\",\"peri" ++
    codes "od\":1,\"script\":[]},{\"name\":\"t11/18\",\"period\":1,\"script\":[]}]},{\"name\":\"n12\",\"timers\":[{\"name\":\"t12/0" ++
    codes "\",\"period\":1,\"script\":[]},{\"name\":\"t12/1\",\"period\":1,\"script\":[]},{\"name\":\"t12/2\",\"period\":1,\"script" ++
    codes "\":[]},{\"name\":\"t12/3\",\"period\":1,\"script\":[]},{\"name\":\"t12/4\",\"period\":1,\"script\":[]},{\"name\":\"t12/5" ++
    codes "\",\"period\":1,\"script\":[]},{\"name\":\"t12/6\",\"period\":1,\"script\":[]},{\"name\":\"t12/7\",\"period\":1,\"script" ++
    codes "\":[]},{\"name\":\"t12/8\",\"period\":1,\"script\":[]},{\"name\":\"t12/9\",\"period\":1,\"script\":[]},{\"name\":\"t12/1" ++
    codes "0\",\"period\":1,\"script\":[]},{\"name\":\"t12/11\",\"period\":1,\"script\":[]},{\"name\":\"t12/12\",\"period\":1,\"scr" ++
    codes "ipt\":[]},{\"name\":\"t12/13\",\"period\":1,\"script\":[]},{\"name\":\"t12/14\",\"period\":1,\"script\":[]},{\"name\":\"" ++
    codes "t12/15\",\"period\":1,\"script\":[]},{\"name\":\"t12/16\",\"period\":1,\"script\":[]},{\"name\":\"t12/17\",\"period\":1" ++
    codes ",\"script\":[]},{\"name\":\"t12/18\",\"period\":1,\"script\":[]}]},{\"name\":\"n13\",\"timers\":[{\"name\":\"t13/0\",\"pe" ++
    codes "riod\":1,\"script\":[]},{\"name\":\"t13/1\",\"period\":1,\"script\":[]},{\"name\":\"t13/2\",\"period\":1,\"script\":[]}" ++
    codes ",{\"name\":\"t13/3\",\"period\":1,\"script\":[]},{\"name\":\"t13/4\",\"period\":1,\"script\":[]},{\"name\":\"t13/5\",\"pe" ++
    codes "riod\":1,\"script\":[]},{\"name\":\"t13/6\",\"period\":1,\"script\":[]},{\"name\":\"t13/7\",\"period\":1,\"script\":[]}" ++
    codes ",{\"name\":\"t13/8\",\"period\":1,\"script\":[]},{\"name\":\"t13/9\",\"period\":1,\"script\":[]},{\"name\":\"t13/10\",\"p" ++
    codes "eriod\":1,\"script\":[]},{\"name\":\"t13/11\",\"period\":1,\"script\":[]},{\"name\":\"t13/12\",\"period\":1,\"script\":" ++
    codes "[]},{\"name\":\"t13/13\",\"period\":1,\"script\":[]},{\"name\":\"t13/14\",\"period\":1,\"script\":[]},{\"name\":\"t13/1" ++
    codes "5\",\"period\":1,\"script\":[]},{\"name\":\"t13/16\",\"period\":1,\"script\":[]},{\"name\":\"t13/17\",\"period\":1,\"scr" ++
    codes "ipt\":[]},{\"name\":\"t13/18\",\"period\":1,\"script\":[]}]},{\"name\":\"n14\",\"timers\":[{\"name\":\"t14/0\",\"period\"" ++
    codes ":1,\"script\":[]},{\"name\":\"t14/1\",\"period\":1,\"script\":[]},{\"name\":\"t14/2\",\"period\":1,\"script\":[]},{\"na" ++
    codes "me\":\"t14/3\",\"period\":1,\"script\":[]},{\"name\":\"t14/4\",\"period\":1,\"script\":[]},{\"name\":\"t14/5\",\"period\"" ++
    codes ":1,\"script\":[]},{\"name\":\"t14/6\",\"period\":1,\"script\":[]},{\"name\":\"t14/7\",\"period\":1,\"script\":[]},{\"na" ++
    codes "me\":\"t14/8\",\"period\":1,\"script\":[]},{\"name\":\"t14/9\",\"period\":1,\"script\":[]},{\"name\":\"t14/10\",\"period" ++
    codes "\":1,\"script\":[]},{\"name\":\"t14/11\",\"period\":1,\"script\":[]},{\"name\":\"t14/12\",\"period\":1,\"script\":[]},{" ++
    codes "\"name\":\"t14/13\",\"period\":1,\"script\":[]},{\"name\":\"t14/14\",\"period\":1,\"script\":[]},{\"name\":\"t14/15\",\"p" ++
    codes "eriod\":1,\"script\":[]},{\"name\":\"t14/16\",\"period\":1,\"script\":[]},{\"name\":\"t14/17\",\"period\":1,\"script\":" ++
    codes "[]},{\"name\":\"t14/18\",\"period\":1,\"script\":[]}]},{\"name\":\"n15\",\"timers\":[{\"name\":\"t15/0\",\"period\":1,\"s" ++
    codes "cript\":[]},{\"name\":\"t15/1\",\"period\":1,\"script\":[]},{\"name\":\"t15/2\",\"period\":1,\"script\":[]},{\"name\":\"" ++
    codes "t15/3\",\"period\":1,\"script\":[]},{\"name\":\"t15/4\",\"period\":1,\"script\":[]},{\"name\":\"t15/5\",\"period\":1,\"s" ++
    codes "cript\":[]},{\"name\":\"t15/6\",\"period\":1,\"script\":[]},{\"name\":\"t15/7\",\"period\":1,\"script\":[]},{\"name\":\"" ++
    codes "t15/8\",\"period\":1,\"script\":[]},{\"name\":\"t15/9\",\"period\":1,\"script\":[]},{\"name\":\"t15/10\",\"period\":1,\"" ++
    codes "script\":[]},{\"name\":\"t15/11\",\"period\":1,\"script\":[]},{\"name\":\"t15/12\",\"period\":1,\"script\":[]},{\"name" ++
    codes "\":\"t15/13\",\"period\":1,\"script\":[]},{\"name\":\"t15/14\",\"period\":1,\"script\":[]},{\"name\":\"t15/15\",\"period" ++
    codes "\":1,\"script\":[]},{\"name\":\"t15/16\",\"period\":1,\"script\":[]},{\"name\":\"t15/17\",\"period\":1,\"script\":[]},{" ++
    codes "\"name\":\"t15/18\",\"period\":1,\"script\":[]}]},{\"name\":\"n16\",\"timers\":[{\"name\":\"t16/0\",\"period\":1,\"script" ++
    codes "\":[]},{\"name\":\"t16/1\",\"period\":1,\"script\":[]},{\"name\":\"t16/2\",\"period\":1,\"script\":[]},{\"name\":\"t16/3" ++
    codes "\",\"period\":1,\"script\":[]},{\"name\":\"t16/4\",\"period\":1,\"script\":[]},{\"name\":\"t16/5\",\"period\":1,\"script" ++
    codes "\":[]},{\"name\":\"t16/6\",\"period\":1,\"script\":[]},{\"name\":\"t16/7\",\"period\":1,\"script\":[]},{\"name\":\"t16/8" ++
    codes "\",\"period\":1,\"script\":[]},{\"name\":\"t16/9\",\"period\":1,\"script\":[]},{\"name\":\"t16/10\",\"period\":1,\"scrip" ++
    codes "t\":[]},{\"name\":\"t16/11\",\"period\":1,\"script\":[]},{\"name\":\"t16/12\",\"period\":1,\"script\":[]},{\"name\":\"t1" ++
    codes "6/13\",\"period\":1,\"script\":[]},{\"name\":\"t16/14\",\"period\":1,\"script\":[]},{\"name\":\"t16/15\",\"period\":1,\"" ++
    codes "script\":[]},{\"name\":\"t16/16\",\"period\":1,\"script\":[]},{\"name\":\"t16/17\",\"period\":1,\"script\":[]},{\"name" ++
    codes "\":\"t16/18\",\"period\":1,\"script\":[]}]},{\"name\":\"n17\",\"timers\":[{\"name\":\"t17/0\",\"period\":1,\"script\":[]}" ++
    codes ",{\"name\":\"t17/1\",\"period\":1,\"script\":[]},{\"name\":\"t17/2\",\"period\":1,\"script\":[]},{\"name\":\"t17/3\",\"pe" ++
    codes "riod\":1,\"script\":[]},{\"name\":\"t17/4\",\"period\":1,\"script\":[]},{\"name\":\"t17/5\",\"period\":1,\"script\":[]}" ++
    codes ",{\"name\":\"t17/6\",\"period\":1,\"script\":[]},{\"name\":\"t17/7\",\"period\":1,\"script\":[]},{\"name\":\"t17/8\",\"pe" ++
    codes "riod\":1,\"script\":[]},{\"name\":\"t17/9\",\"period\":1,\"script\":[]},{\"name\":\"t17/10\",\"period\":1,\"script\":[]" ++
    codes "},{\"name\":\"t17/11\",\"period\":1,\"script\":[]},{\"name\":\"t17/12\",\"period\":1,\"script\":[]},{\"name\":\"t17/13\"" ++
    codes ",\"period\":1,\"script\":[]},{\"name\":\"t17/14\",\"period\":1,\"script\":[]},{\"name\":\"t17/15\",\"period\":1,\"scrip" ++
    codes "t\":[]},{\"name\":\"t17/16\",\"period\":1,\"script\":[]},{\"name\":\"t17/17\",\"period\":1,\"script\":[]},{\"name\":\"t1" ++
    codes "7/18\",\"period\":1,\"script\":[]}]},{\"name\":\"n18\",\"timers\":[{\"name\":\"t18/0\",\"period\":1,\"script\":[]},{\"na" ++
    codes "me\":\"t18/1\",\"period\":1,\"script\":[]},{\"name\":\"t18/2\",\"period\":1,\"script\":[]},{\"name\":\"t18/3\",\"period\"" ++
    codes ":1,\"script\":[]},{\"name\":\"t18/4\",\"period\":1,\"script\":[]},{\"name\":\"t18/5\",\"period\":1,\"script\":[]},{\"na" ++
    codes "me\":\"t18/6\",\"period\":1,\"script\":[]},{\"name\":\"t18/7\",\"period\":1,\"script\":[]},{\"name\":\"t18/8\",\"period\"" ++
    codes ":1,\"script\":[]},{\"name\":\"t18/9\",\"period\":1,\"script\":[]},{\"name\":\"t18/10\",\"period\":1,\"script\":[]},{\"n" ++
    codes "ame\":\"t18/11\",\"period\":1,\"script\":[]},{\"name\":\"t18/12\",\"period\":1,\"script\":[]},{\"name\":\"t18/13\",\"per" ++
    codes "iod\":1,\"script\":[]},{\"name\":\"t18/14\",\"period\":1,\"script\":[]},{\"name\":\"t18/15\",\"period\":1,\"script\":[]" ++
    codes "},{\"name\":\"t18/16\",\"period\":1,\"script\":[]},{\"name\":\"t18/17\",\"period\":1,\"script\":[]},{\"name\":\"t18/18\"" ++
    codes ",\"period\":1,\"script\":[]}]},{\"name\":\"n19\",\"timers\":[{\"name\":\"t19/0\",\"period\":1,\"script\":[]},{\"name\":\"" ++
    codes "t19/1\",\"period\":1,\"script\":[]},{\"name\":\"t19/2\",\"period\":1,\"script\":[]},{\"name\":\"t19/3\",\"period\":1,\"s" ++
    codes "cript\":[]},{\"name\":\"t19/4\",\"period\":1,\"script\":[]},{\"name\":\"t19/5\",\"period\":1,\"script\":[]},{\"name\":\"" ++
    codes "t19/6\",\"period\":1,\"script\":[]},{\"name\":\"t19/7\",\"period\":1,\"script\":[]},{\"name\":\"t19/8\",\"period\":1,\"s" ++
    codes "cript\":[]},{\"name\":\"t19/9\",\"period\":1,\"script\":[]},{\"name\":\"t19/10\",\"period\":1,\"script\":[]},{\"name\":" ++
    codes "\"t19/11\",\"period\":1,\"script\":[]},{\"name\":\"t19/12\",\"period\":1,\"script\":[]},{\"name\":\"t19/13\",\"period\":" ++
    codes "1,\"script\":[]},{\"name\":\"t19/14\",\"period\":1,\"script\":[]},{\"name\":\"t19/15\",\"period\":1,\"script\":[]},{\"n" ++
    codes "ame\":\"t19/16\",\"period\":1,\"script\":[]},{\"name\":\"t19/17\",\"period\":1,\"script\":[]},{\"name\":\"t19/18\",\"per" ++
    codes "iod\":1,\"script\":[]}]},{\"name\":\"n20\",\"timers\":[{\"name\":\"t20/0\",\"period\":1,\"script\":[]},{\"name\":\"t20/1" ++
    codes "\",\"period\":1,\"script\":[]},{\"name\":\"t20/2\",\"period\":1,\"script\":[]},{\"name\":\"t20/3\",\"period\":1,\"script" ++
    codes "\":[]},{\"name\":\"t20/4\",\"period\":1,\"script\":[]},{\"name\":\"t20/5\",\"period\":1,\"script\":[]},{\"name\":\"t20/6" ++
    codes "\",\"period\":1,\"script\":[]},{\"name\":\"t20/7\",\"period\":1,\"script\":[]},{\"name\":\"t20/8\",\"period\":1,\"script" ++
    codes "\":[]},{\"name\":\"t20/9\",\"period\":1,\"script\":[]},{\"name\":\"t20/10\",\"period\":1,\"script\":[]},{\"name\":\"t20/" ++
    codes "11\",\"period\":1,\"script\":[]},{\"name\":\"t20/12\",\"period\":1,\"script\":[]},{\"name\":\"t20/13\",\"period\":1,\"sc" ++
    codes "ript\":[]},{\"name\":\"t20/14\",\"period\":1,\"script\":[]},{\"name\":\"t20/15\",\"period\":1,\"script\":[]},{\"name\":" ++
    codes "\"t20/16\",\"period\":1,\"script\":[]},{\"name\":\"t20/17\",\"period\":1,\"script\":[]},{\"name\":\"t20/18\",\"period\":" ++
    codes "1,\"script\":[]}]},{\"name\":\"n21\",\"timers\":[{\"name\":\"t21/0\",\"period\":1,\"script\":[]},{\"name\":\"t21/1\",\"pe" ++
    codes "riod\":1,\"script\":[]},{\"name\":\"t21/2\",\"period\":1,\"script\":[]},{\"name\":\"t21/3\",\"period\":1,\"script\":[]}" ++
    codes ",{\"name\":\"t21/4\",\"period\":1,\"script\":[]},{\"name\":\"t21/5\",\"period\":1,\"script\":[]},{\"name\":\"t21/6\",\"pe" ++
    codes "riod\":1,\"script\":[]},{\"name\":\"t21/7\",\"period\":1,\"script\":[]},{\"name\":\"t21/8\",\"period\":1,\"script\":[]}" ++
    codes ",{\"name\":\"t21/9\",\"period\":1,\"script\":[]},{\"name\":\"t21/10\",\"period\":1,\"script\":[]},{\"name\":\"t21/11\",\"" ++
    codes "period\":1,\"script\":[]},{\"name\":\"t21/12\",\"period\":1,\"script\":[]},{\"name\":\"t21/13\",\"period\":1,\"script\"" ++
    codes ":[]},{\"name\":\"t21/14\",\"period\":1,\"script\":[]},{\"name\":\"t21/15\",\"period\":1,\"script\":[]},{\"name\":\"t21/" ++
    codes "16\",\"period\":1,\"script\":[]},{\"name\":\"t21/17\",\"period\":1,\"script\":[]},{\"name\":\"t21/18\",\"period\":1,\"sc" ++
    codes "ript\":[]}]},{\"name\":\"n22\",\"timers\":[{\"name\":\"t22/0\",\"period\":1,\"script\":[]},{\"name\":\"t22/1\",\"period\"" ++
    codes ":1,\"script\":[]},{\"name\":\"t22/2\",\"period\":1,\"script\":[]},{\"name\":\"t22/3\",\"period\":1,\"script\":[]},{\"na" ++
    codes "me\":\"t22/4\",\"period\":1,\"script\":[]},{\"name\":\"t22/5\",\"period\":1,\"script\":[]},{\"name\":\"t22/6\",\"period\"" ++
    codes ":1,\"script\":[]},{\"name\":\"t22/7\",\"period\":1,\"script\":[]},{\"name\":\"t22/8\",\"period\":1,\"script\":[]},{\"na" ++
    codes "me\":\"t22/9\",\"period\":1,\"script\":[]},{\"name\":\"t22/10\",\"period\":1,\"script\":[]},{\"name\":\"t22/11\",\"perio" ++
    codes "d\":1,\"script\":[]},{\"name\":\"t22/12\",\"period\":1,\"script\":[]},{\"name\":\"t22/13\",\"period\":1,\"script\":[]}," ++
    codes "{\"name\":\"t22/14\",\"period\":1,\"script\":[]},{\"name\":\"t22/15\",\"period\":1,\"script\":[]},{\"name\":\"t22/16\",\"" ++
    codes "period\":1,\"script\":[]},{\"name\":\"t22/17\",\"period\":1,\"script\":[]},{\"name\":\"t22/18\",\"period\":1,\"script\"" ++
    codes ":[]}]},{\"name\":\"n23\",\"timers\":[{\"name\":\"t23/0\",\"period\":1,\"script\":[]},{\"name\":\"t23/1\",\"period\":1,\"s" ++
    codes "cript\":[]},{\"name\":\"t23/2\",\"period\":1,\"script\":[]},{\"name\":\"t23/3\",\"period\":1,\"script\":[]},{\"name\":\"" ++
    codes "t23/4\",\"period\":1,\"script\":[]},{\"name\":\"t23/5\",\"period\":1,\"script\":[]},{\"name\":\"t23/6\",\"period\":1,\"s" ++
    codes "cript\":[]},{\"name\":\"t23/7\",\"period\":1,\"script\":[]},{\"name\":\"t23/8\",\"period\":1,\"script\":[]},{\"name\":\"" ++
    codes "t23/9\",\"period\":1,\"script\":[]},{\"name\":\"t23/10\",\"period\":1,\"script\":[]},{\"name\":\"t23/11\",\"period\":1," ++
    codes "\"script\":[]},{\"name\":\"t23/12\",\"period\":1,\"script\":[]},{\"name\":\"t23/13\",\"period\":1,\"script\":[]},{\"nam" ++
    codes "e\":\"t23/14\",\"period\":1,\"script\":[]},{\"name\":\"t23/15\",\"period\":1,\"script\":[]},{\"name\":\"t23/16\",\"perio" ++
    codes "d\":1,\"script\":[]},{\"name\":\"t23/17\",\"period\":1,\"script\":[]},{\"name\":\"t23/18\",\"period\":1,\"script\":[]}]" ++
    codes "},{\"name\":\"n24\",\"timers\":[{\"name\":\"t24/0\",\"period\":1,\"script\":[]},{\"name\":\"t24/1\",\"period\":1,\"script" ++
    codes "\":[]},{\"name\":\"t24/2\",\"period\":1,\"script\":[]},{\"name\":\"t24/3\",\"period\":1,\"script\":[]},{\"name\":\"t24/4" ++
    codes "\",\"period\":1,\"script\":[]},{\"name\":\"t24/5\",\"period\":1,\"script\":[]},{\"name\":\"t24/6\",\"period\":1,\"script" ++
    codes "\":[]},{\"name\":\"t24/7\",\"period\":1,\"script\":[]},{\"name\":\"t24/8\",\"period\":1,\"script\":[]},{\"name\":\"t24/9" ++
    codes "\",\"period\":1,\"script\":[]},{\"name\":\"t24/10\",\"period\":1,\"script\":[]},{\"name\":\"t24/11\",\"period\":1,\"scri" ++
    codes "pt\":[]},{\"name\":\"t24/12\",\"period\":1,\"script\":[]},{\"name\":\"t24/13\",\"period\":1,\"script\":[]},{\"name\":\"t" ++
    codes "24/14\",\"period\":1,\"script\":[]},{\"name\":\"t24/15\",\"period\":1,\"script\":[]},{\"name\":\"t24/16\",\"period\":1," ++
    codes "\"script\":[]},{\"name\":\"t24/17\",\"period\":1,\"script\":[]},{\"name\":\"t24/18\",\"period\":1,\"script\":[]}]},{\"n" ++
    codes "ame\":\"n25\",\"timers\":[{\"name\":\"t25/0\",\"period\":1,\"script\":[]},{\"name\":\"t25/1\",\"period\":1,\"script\":[]}" ++
    codes ",{\"name\":\"t25/2\",\"period\":1,\"script\":[]},{\"name\":\"t25/3\",\"period\":1,\"script\":[]},{\"name\":\"t25/4\",\"pe" ++
    codes "riod\":1,\"script\":[]},{\"name\":\"t25/5\",\"period\":1,\"script\":[]},{\"name\":\"t25/6\",\"period\":1,\"script\":[]}" ++
    codes ",{\"name\":\"t25/7\",\"period\":1,\"script\":[]},{\"name\":\"t25/8\",\"period\":1,\"script\":[]},{\"name\":\"t25/9\",\"pe" ++
    codes "riod\":1,\"script\":[]},{\"name\":\"t25/10\",\"period\":1,\"script\":[]},{\"name\":\"t25/11\",\"period\":1,\"script\":[" ++
    codes "]},{\"name\":\"t25/12\",\"period\":1,\"script\":[]},{\"name\":\"t25/13\",\"period\":1,\"script\":[]},{\"name\":\"t25/14" ++
    codes "\",\"period\":1,\"script\":[]},{\"name\":\"t25/15\",\"period\":1,\"script\":[]},{\"name\":\"t25/16\",\"period\":1,\"scri" ++
    codes "pt\":[]},{\"name\":\"t25/17\",\"period\":1,\"script\":[]},{\"name\":\"t25/18\",\"period\":1,\"script\":[]}]},{\"name\":" ++
    codes "\"n26\",\"timers\":[{\"name\":\"t26/0\",\"period\":1,\"script\":[]},{\"name\":\"t26/1\",\"period\":1,\"script\":[]},{\"na" ++
    codes "me\":\"t26/2\",\"period\":1,\"script\":[]},{\"name\":\"t26/3\",\"period\":1,\"script\":[]},{\"name\":\"t26/4\",\"period\"" ++
    codes ":1,\"script\":[]},{\"name\":\"t26/5\",\"period\":1,\"script\":[]},{\"name\":\"t26/6\",\"period\":1,\"script\":[]},{\"na" ++
    codes "me\":\"t26/7\",\"period\":1,\"script\":[]},{\"name\":\"t26/8\",\"period\":1,\"script\":[]},{\"name\":\"t26/9\",\"period\"" ++
    codes ":1,\"script\":[]},{\"name\":\"t26/10\",\"period\":1,\"script\":[]},{\"name\":\"t26/11\",\"period\":1,\"script\":[]},{\"" ++
    codes "name\":\"t26/12\",\"period\":1,\"script\":[]},{\"name\":\"t26/13\",\"period\":1,\"script\":[]},{\"name\":\"t26/14\",\"pe" ++
    codes "riod\":1,\"script\":[]},{\"name\":\"t26/15\",\"period\":1,\"script\":[]},{\"name\":\"t26/16\",\"period\":1,\"script\":[" ++
    codes "]},{\"name\":\"t26/17\",\"period\":1,\"script\":[]},{\"name\":\"t26/18\",\"period\":1,\"script\":[]}]}]}" ++
    []

-- cases/limits/64_nodes.json
abbrev pub limits_64_nodes_document : List ℕ
limits_64_nodes_document =
    codes "{\"version\":1,\"nodes\":[{\"name\":\"n0\"},{\"name\":\"n1\"},{\"name\":\"n2\"},{\"name\":\"n3\"},{\"name\":\"n4\"},{\"name\":" ++
    codes "\"n5\"},{\"name\":\"n6\"},{\"name\":\"n7\"},{\"name\":\"n8\"},{\"name\":\"n9\"},{\"name\":\"n10\"},{\"name\":\"n11\"},{\"name\":" ++
    codes "\"n12\"},{\"name\":\"n13\"},{\"name\":\"n14\"},{\"name\":\"n15\"},{\"name\":\"n16\"},{\"name\":\"n17\"},{\"name\":\"n18\"},{\"n" ++
    codes "ame\":\"n19\"},{\"name\":\"n20\"},{\"name\":\"n21\"},{\"name\":\"n22\"},{\"name\":\"n23\"},{\"name\":\"n24\"},{\"name\":\"n25\"" ++
    codes "},{\"name\":\"n26\"},{\"name\":\"n27\"},{\"name\":\"n28\"},{\"name\":\"n29\"},{\"name\":\"n30\"},{\"name\":\"n31\"},{\"name\":" ++
    codes "\"n32\"},{\"name\":\"n33\"},{\"name\":\"n34\"},{\"name\":\"n35\"},{\"name\":\"n36\"},{\"name\":\"n37\"},{\"name\":\"n38\"},{\"n" ++
    codes "ame\":\"n39\"},{\"name\":\"n40\"},{\"name\":\"n41\"},{\"name\":\"n42\"},{\"name\":\"n43\"},{\"name\":\"n44\"},{\"name\":\"n45\"" ++
    codes "},{\"name\":\"n46\"},{\"name\":\"n47\"},{\"name\":\"n48\"},{\"name\":\"n49\"},{\"name\":\"n50\"},{\"name\":\"n51\"},{\"name\":" ++
    codes "\"n52\"},{\"name\":\"n53\"},{\"name\":\"n54\"},{\"name\":\"n55\"},{\"name\":\"n56\"},{\"name\":\"n57\"},{\"name\":\"n58\"},{\"n" ++
    codes "ame\":\"n59\"},{\"name\":\"n60\"},{\"name\":\"n61\"},{\"name\":\"n62\"},{\"name\":\"n63\"}]}" ++ 10 ∷
    []

abbrev pub limits_64_nodes_transcript : List ℕ
limits_64_nodes_transcript =
    codes "end 0" ++ 10 ∷
    []

-- cases/limits/64_nodes_of_8_timers.json
abbrev pub limits_64_nodes_of_8_timers_document : List ℕ
limits_64_nodes_of_8_timers_document =
    codes "{\"version\":1,\"nodes\":[{\"name\":\"n0\",\"timers\":[{\"name\":\"t0/0\",\"period\":1,\"script\":[]},{\"name\":\"t0/1\",\"" ++
    codes "period\":1,\"script\":[]},{\"name\":\"t0/2\",\"period\":1,\"script\":[]},{\"name\":\"t0/3\",\"period\":1,\"script\":[]}" ++
    codes ",{\"name\":\"t0/4\",\"period\":1,\"script\":[]},{\"name\":\"t0/5\",\"period\":1,\"script\":[]},{\"name\":\"t0/6\",\"perio" ++
    codes "d\":1,\"script\":[]},{\"name\":\"t0/7\",\"period\":1,\"script\":[]}]},{\"name\":\"n1\",\"timers\":[{\"name\":\"t1/0\",\"pe" ++
    codes "riod\":1,\"script\":[]},{\"name\":\"t1/1\",\"period\":1,\"script\":[]},{\"name\":\"t1/2\",\"period\":1,\"script\":[]},{" ++
    codes "\"name\":\"t1/3\",\"period\":1,\"script\":[]},{\"name\":\"t1/4\",\"period\":1,\"script\":[]},{\"name\":\"t1/5\",\"period\"" ++
    codes ":1,\"script\":[]},{\"name\":\"t1/6\",\"period\":1,\"script\":[]},{\"name\":\"t1/7\",\"period\":1,\"script\":[]}]},{\"na" ++
    codes "me\":\"n2\",\"timers\":[{\"name\":\"t2/0\",\"period\":1,\"script\":[]},{\"name\":\"t2/1\",\"period\":1,\"script\":[]},{\"n" ++
    codes "ame\":\"t2/2\",\"period\":1,\"script\":[]},{\"name\":\"t2/3\",\"period\":1,\"script\":[]},{\"name\":\"t2/4\",\"period\":1" ++
    codes ",\"script\":[]},{\"name\":\"t2/5\",\"period\":1,\"script\":[]},{\"name\":\"t2/6\",\"period\":1,\"script\":[]},{\"name\":" ++
    codes "\"t2/7\",\"period\":1,\"script\":[]}]},{\"name\":\"n3\",\"timers\":[{\"name\":\"t3/0\",\"period\":1,\"script\":[]},{\"nam" ++
    codes "e\":\"t3/1\",\"period\":1,\"script\":[]},{\"name\":\"t3/2\",\"period\":1,\"script\":[]},{\"name\":\"t3/3\",\"period\":1,\"" ++
    codes "script\":[]},{\"name\":\"t3/4\",\"period\":1,\"script\":[]},{\"name\":\"t3/5\",\"period\":1,\"script\":[]},{\"name\":\"t" ++
    codes "3/6\",\"period\":1,\"script\":[]},{\"name\":\"t3/7\",\"period\":1,\"script\":[]}]},{\"name\":\"n4\",\"timers\":[{\"name\"" ++
    codes ":\"t4/0\",\"period\":1,\"script\":[]},{\"name\":\"t4/1\",\"period\":1,\"script\":[]},{\"name\":\"t4/2\",\"period\":1,\"sc" ++
    codes "ript\":[]},{\"name\":\"t4/3\",\"period\":1,\"script\":[]},{\"name\":\"t4/4\",\"period\":1,\"script\":[]},{\"name\":\"t4/" ++
    codes "5\",\"period\":1,\"script\":[]},{\"name\":\"t4/6\",\"period\":1,\"script\":[]},{\"name\":\"t4/7\",\"period\":1,\"script\"" ++
    codes ":[]}]},{\"name\":\"n5\",\"timers\":[{\"name\":\"t5/0\",\"period\":1,\"script\":[]},{\"name\":\"t5/1\",\"period\":1,\"scri" ++
    codes "pt\":[]},{\"name\":\"t5/2\",\"period\":1,\"script\":[]},{\"name\":\"t5/3\",\"period\":1,\"script\":[]},{\"name\":\"t5/4\"" ++
    codes ",\"period\":1,\"script\":[]},{\"name\":\"t5/5\",\"period\":1,\"script\":[]},{\"name\":\"t5/6\",\"period\":1,\"script\":[" ++
    codes "]},{\"name\":\"t5/7\",\"period\":1,\"script\":[]}]},{\"name\":\"n6\",\"timers\":[{\"name\":\"t6/0\",\"period\":1,\"script" ++
    codes "\":[]},{\"name\":\"t6/1\",\"period\":1,\"script\":[]},{\"name\":\"t6/2\",\"period\":1,\"script\":[]},{\"name\":\"t6/3\",\"" ++
    codes "period\":1,\"script\":[]},{\"name\":\"t6/4\",\"period\":1,\"script\":[]},{\"name\":\"t6/5\",\"period\":1,\"script\":[]}" ++
    codes ",{\"name\":\"t6/6\",\"period\":1,\"script\":[]},{\"name\":\"t6/7\",\"period\":1,\"script\":[]}]},{\"name\":\"n7\",\"timer" ++
    codes "s\":[{\"name\":\"t7/0\",\"period\":1,\"script\":[]},{\"name\":\"t7/1\",\"period\":1,\"script\":[]},{\"name\":\"t7/2\",\"pe" ++
    codes "riod\":1,\"script\":[]},{\"name\":\"t7/3\",\"period\":1,\"script\":[]},{\"name\":\"t7/4\",\"period\":1,\"script\":[]},{" ++
    codes "\"name\":\"t7/5\",\"period\":1,\"script\":[]},{\"name\":\"t7/6\",\"period\":1,\"script\":[]},{\"name\":\"t7/7\",\"period\"" ++
    codes ":1,\"script\":[]}]},{\"name\":\"n8\",\"timers\":[{\"name\":\"t8/0\",\"period\":1,\"script\":[]},{\"name\":\"t8/1\",\"peri" ++
    codes "od\":1,\"script\":[]},{\"name\":\"t8/2\",\"period\":1,\"script\":[]},{\"name\":\"t8/3\",\"period\":1,\"script\":[]},{\"n" ++
    codes "ame\":\"t8/4\",\"period\":1,\"script\":[]},{\"name\":\"t8/5\",\"period\":1,\"script\":[]},{\"name\":\"t8/6\",\"period\":1" ++
    codes ",\"script\":[]},{\"name\":\"t8/7\",\"period\":1,\"script\":[]}]},{\"name\":\"n9\",\"timers\":[{\"name\":\"t9/0\",\"period" ++
    codes "\":1,\"script\":[]},{\"name\":\"t9/1\",\"period\":1,\"script\":[]},{\"name\":\"t9/2\",\"period\":1,\"script\":[]},{\"nam" ++
    codes "e\":\"t9/3\",\"period\":1,\"script\":[]},{\"name\":\"t9/4\",\"period\":1,\"script\":[]},{\"name\":\"t9/5\",\"period\":1,\"" ++
    codes "script\":[]},{\"name\":\"t9/6\",\"period\":1,\"script\":[]},{\"name\":\"t9/7\",\"period\":1,\"script\":[]}]},{\"name\":" ++
    codes "\"n10\",\"timers\":[{\"name\":\"t10/0\",\"period\":1,\"script\":[]},{\"name\":\"t10/1\",\"period\":1,\"script\":[]},{\"na" ++
    codes "me\":\"t10/2\",\"period\":1,\"script\":[]},{\"name\":\"t10/3\",\"period\":1,\"script\":[]},{\"name\":\"t10/4\",\"period\"" ++
    codes ":1,\"script\":[]},{\"name\":\"t10/5\",\"period\":1,\"script\":[]},{\"name\":\"t10/6\",\"period\":1,\"script\":[]},{\"na" ++
    codes "me\":\"t10/7\",\"period\":1,\"script\":[]}]},{\"name\":\"n11\",\"timers\":[{\"name\":\"t11/0\",\"period\":1,\"script\":[]" ++
    codes "},{\"name\":\"t11/1\",\"period\":1,\"script\":[]},{\"name\":\"t11/2\",\"period\":1,\"script\":[]},{\"name\":\"t11/3\",\"p" ++
    codes "eriod\":1,\"script\":[]},{\"name\":\"t11/4\",\"period\":1,\"script\":[]},{\"name\":\"t11/5\",\"period\":1,\"script\":[]" ++
    codes "},{\"name\":\"t11/6\",\"period\":1,\"script\":[]},{\"name\":\"t11/7\",\"period\":1,\"script\":[]}]},{\"name\":\"n12\",\"t" ++
    codes "imers\":[{\"name\":\"t12/0\",\"period\":1,\"script\":[]},{\"name\":\"t12/1\",\"period\":1,\"script\":[]},{\"name\":\"t12" ++
    codes "/2\",\"period\":1,\"script\":[]},{\"name\":\"t12/3\",\"period\":1,\"script\":[]},{\"name\":\"t12/4\",\"period\":1,\"scri" ++
    codes "pt\":[]},{\"name\":\"t12/5\",\"period\":1,\"script\":[]},{\"name\":\"t12/6\",\"period\":1,\"script\":[]},{\"name\":\"t12" ++
    codes "/7\",\"period\":1,\"script\":[]}]},{\"name\":\"n13\",\"timers\":[{\"name\":\"t13/0\",\"period\":1,\"script\":[]},{\"name" ++
    codes "\":\"t13/1\",\"period\":1,\"script\":[]},{\"name\":\"t13/2\",\"period\":1,\"script\":[]},{\"name\":\"t13/3\",\"period\":1" ++
    codes ",\"script\":[]},{\"name\":\"t13/4\",\"period\":1,\"script\":[]},{\"name\":\"t13/5\",\"period\":1,\"script\":[]},{\"name" ++
    codes "\":\"t13/6\",\"period\":1,\"script\":[]},{\"name\":\"t13/7\",\"period\":1,\"script\":[]}]},{\"name\":\"n14\",\"timers\":[" ++
    codes "{\"name\":\"t14/0\",\"period\":1,\"script\":[]},{\"name\":\"t14/1\",\"period\":1,\"script\":[]},{\"name\":\"t14/2\",\"per" ++
    codes "iod\":1,\"script\":[]},{\"name\":\"t14/3\",\"period\":1,\"script\":[]},{\"name\":\"t14/4\",\"period\":1,\"script\":[]}," ++
    codes "{\"name\":\"t14/5\",\"period\":1,\"script\":[]},{\"name\":\"t14/6\",\"period\":1,\"script\":[]},{\"name\":\"t14/7\",\"per" ++
    codes "iod\":1,\"script\":[]}]},{\"name\":\"n15\",\"timers\":[{\"name\":\"t15/0\",\"period\":1,\"script\":[]},{\"name\":\"t15/1" ++
    codes "\",\"period\":1,\"script\":[]},{\"name\":\"t15/2\",\"period\":1,\"script\":[]},{\"name\":\"t15/3\",\"period\":1,\"script" ++
    codes "\":[]},{\"name\":\"t15/4\",\"period\":1,\"script\":[]},{\"name\":\"t15/5\",\"period\":1,\"script\":[]},{\"name\":\"t15/6" ++
    codes "\",\"period\":1,\"script\":[]},{\"name\":\"t15/7\",\"period\":1,\"script\":[]}]},{\"name\":\"n16\",\"timers\":[{\"name\":" ++
    codes "\"t16/0\",\"period\":1,\"script\":[]},{\"name\":\"t16/1\",\"period\":1,\"script\":[]},{\"name\":\"t16/2\",\"period\":1,\"" ++
    codes "script\":[]},{\"name\":\"t16/3\",\"period\":1,\"script\":[]},{\"name\":\"t16/4\",\"period\":1,\"script\":[]},{\"name\":" ++
    codes "\"t16/5\",\"period\":1,\"script\":[]},{\"name\":\"t16/6\",\"period\":1,\"script\":[]},{\"name\":\"t16/7\",\"period\":1,\"" ++
    codes "script\":[]}]},{\"name\":\"n17\",\"timers\":[{\"name\":\"t17/0\",\"period\":1,\"script\":[]},{\"name\":\"t17/1\",\"perio" ++
    codes "d\":1,\"script\":[]},{\"name\":\"t17/2\",\"period\":1,\"script\":[]},{\"name\":\"t17/3\",\"period\":1,\"script\":[]},{\"" ++
    codes "name\":\"t17/4\",\"period\":1,\"script\":[]},{\"name\":\"t17/5\",\"period\":1,\"script\":[]},{\"name\":\"t17/6\",\"perio" ++
    codes "d\":1,\"script\":[]},{\"name\":\"t17/7\",\"period\":1,\"script\":[]}]},{\"name\":\"n18\",\"timers\":[{\"name\":\"t18/0\"," ++
    codes "\"period\":1,\"script\":[]},{\"name\":\"t18/1\",\"period\":1,\"script\":[]},{\"name\":\"t18/2\",\"period\":1,\"script\":" ++
    codes "[]},{\"name\":\"t18/3\",\"period\":1,\"script\":[]},{\"name\":\"t18/4\",\"period\":1,\"script\":[]},{\"name\":\"t18/5\"," ++
    codes "\"period\":1,\"script\":[]},{\"name\":\"t18/6\",\"period\":1,\"script\":[]},{\"name\":\"t18/7\",\"period\":1,\"script\":" ++
    codes "[]}]},{\"name\":\"n19\",\"timers\":[{\"name\":\"t19/0\",\"period\":1,\"script\":[]},{\"name\":\"t19/1\",\"period\":1,\"sc" ++
    codes "ript\":[]},{\"name\":\"t19/2\",\"period\":1,\"script\":[]},{\"name\":\"t19/3\",\"period\":1,\"script\":[]},{\"name\":\"t" ++
    codes "19/4\",\"period\":1,\"script\":[]},{\"name\":\"t19/5\",\"period\":1,\"script\":[]},{\"name\":\"t19/6\",\"period\":1,\"sc" ++
    codes "ript\":[]},{\"name\":\"t19/7\",\"period\":1,\"script\":[]}]},{\"name\":\"n20\",\"timers\":[{\"name\":\"t20/0\",\"period\"" ++
    codes ":1,\"script\":[]},{\"name\":\"t20/1\",\"period\":1,\"script\":[]},{\"name\":\"t20/2\",\"period\":1,\"script\":[]},{\"na" ++
    codes "me\":\"t20/3\",\"period\":1,\"script\":[]},{\"name\":\"t20/4\",\"period\":1,\"script\":[]},{\"name\":\"t20/5\",\"period\"" ++
    codes ":1,\"script\":[]},{\"name\":\"t20/6\",\"period\":1,\"script\":[]},{\"name\":\"t20/7\",\"period\":1,\"script\":[]}]},{\"" ++
    codes "name\":\"n21\",\"timers\":[{\"name\":\"t21/0\",\"period\":1,\"script\":[]},{\"name\":\"t21/1\",\"period\":1,\"script\":[]" ++
    codes "},{\"name\":\"t21/2\",\"period\":1,\"script\":[]},{\"name\":\"t21/3\",\"period\":1,\"script\":[]},{\"name\":\"t21/4\",\"p" ++
    codes "eriod\":1,\"script\":[]},{\"name\":\"t21/5\",\"period\":1,\"script\":[]},{\"name\":\"t21/6\",\"period\":1,\"script\":[]" ++
    codes "},{\"name\":\"t21/7\",\"period\":1,\"script\":[]}]},{\"name\":\"n22\",\"timers\":[{\"name\":\"t22/0\",\"period\":1,\"scri" ++
    codes "pt\":[]},{\"name\":\"t22/1\",\"period\":1,\"script\":[]},{\"name\":\"t22/2\",\"period\":1,\"script\":[]},{\"name\":\"t22" ++
    codes "/3\",\"period\":1,\"script\":[]},{\"name\":\"t22/4\",\"period\":1,\"script\":[]},{\"name\":\"t22/5\",\"period\":1,\"scri" ++
    codes "pt\":[]},{\"name\":\"t22/6\",\"period\":1,\"script\":[]},{\"name\":\"t22/7\",\"period\":1,\"script\":[]}]},{\"name\":\"n" ++
    codes "23\",\"timers\":[{\"name\":\"t23/0\",\"period\":1,\"script\":[]},{\"name\":\"t23/1\",\"period\":1,\"script\":[]},{\"name" ++
    codes "\":\"t23/2\",\"period\":1,\"script\":[]},{\"name\":\"t23/3\",\"period\":1,\"script\":[]},{\"name\":\"t23/4\",\"period\":1" ++
    codes ",\"script\":[]},{\"name\":\"t23/5\",\"period\":1,\"script\":[]},{\"name\":\"t23/6\",\"period\":1,\"script\":[]},{\"name" ++
    codes "\":\"t23/7\",\"period\":1,\"script\":[]}]},{\"name\":\"n24\",\"timers\":[{\"name\":\"t24/0\",\"period\":1,\"script\":[]}," ++
    codes "{\"name\":\"t24/1\",\"period\":1,\"script\":[]},{\"name\":\"t24/2\",\"period\":1,\"script\":[]},{\"name\":\"t24/3\",\"per" ++
    codes "iod\":1,\"script\":[]},{\"name\":\"t24/4\",\"period\":1,\"script\":[]},{\"name\":\"t24/5\",\"period\":1,\"script\":[]}," ++
    codes "{\"name\":\"t24/6\",\"period\":1,\"script\":[]},{\"name\":\"t24/7\",\"period\":1,\"script\":[]}]},{\"name\":\"n25\",\"tim" ++
    codes "ers\":[{\"name\":\"t25/0\",\"period\":1,\"script\":[]},{\"name\":\"t25/1\",\"period\":1,\"script\":[]},{\"name\":\"t25/2" ++
    codes "\",\"period\":1,\"script\":[]},{\"name\":\"t25/3\",\"period\":1,\"script\":[]},{\"name\":\"t25/4\",\"period\":1,\"script" ++
    codes "\":[]},{\"name\":\"t25/5\",\"period\":1,\"script\":[]},{\"name\":\"t25/6\",\"period\":1,\"script\":[]},{\"name\":\"t25/7" ++
    codes "\",\"period\":1,\"script\":[]}]},{\"name\":\"n26\",\"timers\":[{\"name\":\"t26/0\",\"period\":1,\"script\":[]},{\"name\":" ++
    codes "\"t26/1\",\"period\":1,\"script\":[]},{\"name\":\"t26/2\",\"period\":1,\"script\":[]},{\"name\":\"t26/3\",\"period\":1,\"" ++
    codes "script\":[]},{\"name\":\"t26/4\",\"period\":1,\"script\":[]},{\"name\":\"t26/5\",\"period\":1,\"script\":[]},{\"name\":" ++
    codes "\"t26/6\",\"period\":1,\"script\":[]},{\"name\":\"t26/7\",\"period\":1,\"script\":[]}]},{\"name\":\"n27\",\"timers\":[{\"" ++
    codes "name\":\"t27/0\",\"period\":1,\"script\":[]},{\"name\":\"t27/1\",\"period\":1,\"script\":[]},{\"name\":\"t27/2\",\"perio" ++
    codes "d\":1,\"script\":[]},{\"name\":\"t27/3\",\"period\":1,\"script\":[]},{\"name\":\"t27/4\",\"period\":1,\"script\":[]},{\"" ++
    codes "name\":\"t27/5\",\"period\":1,\"script\":[]},{\"name\":\"t27/6\",\"period\":1,\"script\":[]},{\"name\":\"t27/7\",\"perio" ++
    codes "d\":1,\"script\":[]}]},{\"name\":\"n28\",\"timers\":[{\"name\":\"t28/0\",\"period\":1,\"script\":[]},{\"name\":\"t28/1\"," ++
    codes "\"period\":1,\"script\":[]},{\"name\":\"t28/2\",\"period\":1,\"script\":[]},{\"name\":\"t28/3\",\"period\":1,\"script\":" ++
    codes "[]},{\"name\":\"t28/4\",\"period\":1,\"script\":[]},{\"name\":\"t28/5\",\"period\":1,\"script\":[]},{\"name\":\"t28/6\"," ++
    codes "\"period\":1,\"script\":[]},{\"name\":\"t28/7\",\"period\":1,\"script\":[]}]},{\"name\":\"n29\",\"timers\":[{\"name\":\"t" ++
    codes "29/0\",\"period\":1,\"script\":[]},{\"name\":\"t29/1\",\"period\":1,\"script\":[]},{\"name\":\"t29/2\",\"period\":1,\"sc" ++
    codes "ript\":[]},{\"name\":\"t29/3\",\"period\":1,\"script\":[]},{\"name\":\"t29/4\",\"period\":1,\"script\":[]},{\"name\":\"t" ++
    codes "29/5\",\"period\":1,\"script\":[]},{\"name\":\"t29/6\",\"period\":1,\"script\":[]},{\"name\":\"t29/7\",\"period\":1,\"sc" ++
    codes "ript\":[]}]},{\"name\":\"n30\",\"timers\":[{\"name\":\"t30/0\",\"period\":1,\"script\":[]},{\"name\":\"t30/1\",\"period\"" ++
    codes ":1,\"script\":[]},{\"name\":\"t30/2\",\"period\":1,\"script\":[]},{\"name\":\"t30/3\",\"period\":1,\"script\":[]},{\"na" ++
    codes "me\":\"t30/4\",\"period\":1,\"script\":[]},{\"name\":\"t30/5\",\"period\":1,\"script\":[]},{\"name\":\"t30/6\",\"period\"" ++
    codes ":1,\"script\":[]},{\"name\":\"t30/7\",\"period\":1,\"script\":[]}]},{\"name\":\"n31\",\"timers\":[{\"name\":\"t31/0\",\"p" ++
    codes "eriod\":1,\"script\":[]},{\"name\":\"t31/1\",\"period\":1,\"script\":[]},{\"name\":\"t31/2\",\"period\":1,\"script\":[]" ++
    codes "},{\"name\":\"t31/3\",\"period\":1,\"script\":[]},{\"name\":\"t31/4\",\"period\":1,\"script\":[]},{\"name\":\"t31/5\",\"p" ++
    codes "eriod\":1,\"script\":[]},{\"name\":\"t31/6\",\"period\":1,\"script\":[]},{\"name\":\"t31/7\",\"period\":1,\"script\":[]" ++
    codes "}]},{\"name\":\"n32\",\"timers\":[{\"name\":\"t32/0\",\"period\":1,\"script\":[]},{\"name\":\"t32/1\",\"period\":1,\"scri" ++
    codes "pt\":[]},{\"name\":\"t32/2\",\"period\":1,\"script\":[]},{\"name\":\"t32/3\",\"period\":1,\"script\":[]},{\"name\":\"t32" ++
    codes "/4\",\"period\":1,\"script\":[]},{\"name\":\"t32/5\",\"period\":1,\"script\":[]},{\"name\":\"t32/6\",\"period\":1,\"scri" ++
    codes "pt\":[]},{\"name\":\"t32/7\",\"period\":1,\"script\":[]}]},{\"name\":\"n33\",\"timers\":[{\"name\":\"t33/0\",\"period\":1" ++
    codes ",\"script\":[]},{\"name\":\"t33/1\",\"period\":1,\"script\":[]},{\"name\":\"t33/2\",\"period\":1,\"script\":[]},{\"name" ++
    codes "\":\"t33/3\",\"period\":1,\"script\":[]},{\"name\":\"t33/4\",\"period\":1,\"script\":[]},{\"name\":\"t33/5\",\"period\":1" ++
    codes ",\"script\":[]},{\"name\":\"t33/6\",\"period\":1,\"script\":[]},{\"name\":\"t33/7\",\"period\":1,\"script\":[]}]},{\"na" ++
    codes "me\":\"n34\",\"timers\":[{\"name\":\"t34/0\",\"period\":1,\"script\":[]},{\"name\":\"t34/1\",\"period\":1,\"script\":[]}," ++
    codes "{\"name\":\"t34/2\",\"period\":1,\"script\":[]},{\"name\":\"t34/3\",\"period\":1,\"script\":[]},{\"name\":\"t34/4\",\"per" ++
    codes "iod\":1,\"script\":[]},{\"name\":\"t34/5\",\"period\":1,\"script\":[]},{\"name\":\"t34/6\",\"period\":1,\"script\":[]}," ++
    codes "{\"name\":\"t34/7\",\"period\":1,\"script\":[]}]},{\"name\":\"n35\",\"timers\":[{\"name\":\"t35/0\",\"period\":1,\"script" ++
    codes "\":[]},{\"name\":\"t35/1\",\"period\":1,\"script\":[]},{\"name\":\"t35/2\",\"period\":1,\"script\":[]},{\"name\":\"t35/3" ++
    codes "\",\"period\":1,\"script\":[]},{\"name\":\"t35/4\",\"period\":1,\"script\":[]},{\"name\":\"t35/5\",\"period\":1,\"script" ++
    codes "\":[]},{\"name\":\"t35/6\",\"period\":1,\"script\":[]},{\"name\":\"t35/7\",\"period\":1,\"script\":[]}]},{\"name\":\"n36" ++
    codes "\",\"timers\":[{\"name\":\"t36/0\",\"period\":1,\"script\":[]},{\"name\":\"t36/1\",\"period\":1,\"script\":[]},{\"name\":" ++
    codes "\"t36/2\",\"period\":1,\"script\":[]},{\"name\":\"t36/3\",\"period\":1,\"script\":[]},{\"name\":\"t36/4\",\"period\":1,\"" ++
    codes "script\":[]},{\"name\":\"t36/5\",\"period\":1,\"script\":[]},{\"name\":\"t36/6\",\"period\":1,\"script\":[]},{\"name\":" ++
    codes "\"t36/7\",\"period\":1,\"script\":[]}]},{\"name\":\"n37\",\"timers\":[{\"name\":\"t37/0\",\"period\":1,\"script\":[]},{\"" ++
    codes "name\":\"t37/1\",\"period\":1,\"script\":[]},{\"name\":\"t37/2\",\"period\":1,\"script\":[]},{\"name\":\"t37/3\",\"perio" ++
    codes "d\":1,\"script\":[]},{\"name\":\"t37/4\",\"period\":1,\"script\":[]},{\"name\":\"t37/5\",\"period\":1,\"script\":[]},{\"" ++
    codes "name\":\"t37/6\",\"period\":1,\"script\":[]},{\"name\":\"t37/7\",\"period\":1,\"script\":[]}]},{\"name\":\"n38\",\"timer" ++
    codes "s\":[{\"name\":\"t38/0\",\"period\":1,\"script\":[]},{\"name\":\"t38/1\",\"period\":1,\"script\":[]},{\"name\":\"t38/2\"," ++
    codes "\"period\":1,\"script\":[]},{\"name\":\"t38/3\",\"period\":1,\"script\":[]},{\"name\":\"t38/4\",\"period\":1,\"script\":" ++
    codes "[]},{\"name\":\"t38/5\",\"period\":1,\"script\":[]},{\"name\":\"t38/6\",\"period\":1,\"script\":[]},{\"name\":\"t38/7\"," ++
    codes "\"period\":1,\"script\":[]}]},{\"name\":\"n39\",\"timers\":[{\"name\":\"t39/0\",\"period\":1,\"script\":[]},{\"name\":\"t" ++
    codes "39/1\",\"period\":1,\"script\":[]},{\"name\":\"t39/2\",\"period\":1,\"script\":[]},{\"name\":\"t39/3\",\"period\":1,\"sc" ++
    codes "ript\":[]},{\"name\":\"t39/4\",\"period\":1,\"script\":[]},{\"name\":\"t39/5\",\"period\":1,\"script\":[]},{\"name\":\"t" ++
    codes "39/6\",\"period\":1,\"script\":[]},{\"name\":\"t39/7\",\"period\":1,\"script\":[]}]},{\"name\":\"n40\",\"timers\":[{\"na" ++
    codes "me\":\"t40/0\",\"period\":1,\"script\":[]},{\"name\":\"t40/1\",\"period\":1,\"script\":[]},{\"name\":\"t40/2\",\"period\"" ++
    codes ":1,\"script\":[]},{\"name\":\"t40/3\",\"period\":1,\"script\":[]},{\"name\":\"t40/4\",\"period\":1,\"script\":[]},{\"na" ++
    codes "me\":\"t40/5\",\"period\":1,\"script\":[]},{\"name\":\"t40/6\",\"period\":1,\"script\":[]},{\"name\":\"t40/7\",\"period\"" ++
    codes ":1,\"script\":[]}]},{\"name\":\"n41\",\"timers\":[{\"name\":\"t41/0\",\"period\":1,\"script\":[]},{\"name\":\"t41/1\",\"p" ++
    codes "eriod\":1,\"script\":[]},{\"name\":\"t41/2\",\"period\":1,\"script\":[]},{\"name\":\"t41/3\",\"period\":1,\"script\":[]" ++
    codes "},{\"name\":\"t41/4\",\"period\":1,\"script\":[]},{\"name\":\"t41/5\",\"period\":1,\"script\":[]},{\"name\":\"t41/6\",\"p" ++
    codes "eriod\":1,\"script\":[]},{\"name\":\"t41/7\",\"period\":1,\"script\":[]}]},{\"name\":\"n42\",\"timers\":[{\"name\":\"t42" ++
    codes "/0\",\"period\":1,\"script\":[]},{\"name\":\"t42/1\",\"period\":1,\"script\":[]},{\"name\":\"t42/2\",\"period\":1,\"scri" ++
    codes "pt\":[]},{\"name\":\"t42/3\",\"period\":1,\"script\":[]},{\"name\":\"t42/4\",\"period\":1,\"script\":[]},{\"name\":\"t42" ++
    codes "/5\",\"period\":1,\"script\":[]},{\"name\":\"t42/6\",\"period\":1,\"script\":[]},{\"name\":\"t42/7\",\"period\":1,\"scri" ++
    codes "pt\":[]}]},{\"name\":\"n43\",\"timers\":[{\"name\":\"t43/0\",\"period\":1,\"script\":[]},{\"name\":\"t43/1\",\"period\":1" ++
    codes ",\"script\":[]},{\"name\":\"t43/2\",\"period\":1,\"script\":[]},{\"name\":\"t43/3\",\"period\":1,\"script\":[]},{\"name" ++
    codes "\":\"t43/4\",\"period\":1,\"script\":[]},{\"name\":\"t43/5\",\"period\":1,\"script\":[]},{\"name\":\"t43/6\",\"period\":1" ++
    codes ",\"script\":[]},{\"name\":\"t43/7\",\"period\":1,\"script\":[]}]},{\"name\":\"n44\",\"timers\":[{\"name\":\"t44/0\",\"per" ++
    codes "iod\":1,\"script\":[]},{\"name\":\"t44/1\",\"period\":1,\"script\":[]},{\"name\":\"t44/2\",\"period\":1,\"script\":[]}," ++
    codes "{\"name\":\"t44/3\",\"period\":1,\"script\":[]},{\"name\":\"t44/4\",\"period\":1,\"script\":[]},{\"name\":\"t44/5\",\"per" ++
    codes "iod\":1,\"script\":[]},{\"name\":\"t44/6\",\"period\":1,\"script\":[]},{\"name\":\"t44/7\",\"period\":1,\"script\":[]}]" ++
    codes "},{\"name\":\"n45\",\"timers\":[{\"name\":\"t45/0\",\"period\":1,\"script\":[]},{\"name\":\"t45/1\",\"period\":1,\"script" ++
    codes "\":[]},{\"name\":\"t45/2\",\"period\":1,\"script\":[]},{\"name\":\"t45/3\",\"period\":1,\"script\":[]},{\"name\":\"t45/4" ++
    codes "\",\"period\":1,\"script\":[]},{\"name\":\"t45/5\",\"period\":1,\"script\":[]},{\"name\":\"t45/6\",\"period\":1,\"script" ++
    codes "\":[]},{\"name\":\"t45/7\",\"period\":1,\"script\":[]}]},{\"name\":\"n46\",\"timers\":[{\"name\":\"t46/0\",\"period\":1,\"" ++
    codes "script\":[]},{\"name\":\"t46/1\",\"period\":1,\"script\":[]},{\"name\":\"t46/2\",\"period\":1,\"script\":[]},{\"name\":" ++
    codes "\"t46/3\",\"period\":1,\"script\":[]},{\"name\":\"t46/4\",\"period\":1,\"script\":[]},{\"name\":\"t46/5\",\"period\":1,\"" ++
    codes "script\":[]},{\"name\":\"t46/6\",\"period\":1,\"script\":[]},{\"name\":\"t46/7\",\"period\":1,\"script\":[]}]},{\"name" ++
    codes "\":\"n47\",\"timers\":[{\"name\":\"t47/0\",\"period\":1,\"script\":[]},{\"name\":\"t47/1\",\"period\":1,\"script\":[]},{\"" ++
    codes "name\":\"t47/2\",\"period\":1,\"script\":[]},{\"name\":\"t47/3\",\"period\":1,\"script\":[]},{\"name\":\"t47/4\",\"perio" ++
    codes "d\":1,\"script\":[]},{\"name\":\"t47/5\",\"period\":1,\"script\":[]},{\"name\":\"t47/6\",\"period\":1,\"script\":[]},{\"" ++
    codes "name\":\"t47/7\",\"period\":1,\"script\":[]}]},{\"name\":\"n48\",\"timers\":[{\"name\":\"t48/0\",\"period\":1,\"script\":" ++
    codes "[]},{\"name\":\"t48/1\",\"period\":1,\"script\":[]},{\"name\":\"t48/2\",\"period\":1,\"script\":[]},{\"name\":\"t48/3\"," ++
    codes "\"period\":1,\"script\":[]},{\"name\":\"t48/4\",\"period\":1,\"script\":[]},{\"name\":\"t48/5\",\"period\":1,\"script\":" ++
    codes "[]},{\"name\":\"t48/6\",\"period\":1,\"script\":[]},{\"name\":\"t48/7\",\"period\":1,\"script\":[]}]},{\"name\":\"n49\"," ++
    codes "\"timers\":[{\"name\":\"t49/0\",\"period\":1,\"script\":[]},{\"name\":\"t49/1\",\"period\":1,\"script\":[]},{\"name\":\"t" ++
    codes "49/2\",\"period\":1,\"script\":[]},{\"name\":\"t49/3\",\"period\":1,\"script\":[]},{\"name\":\"t49/4\",\"period\":1,\"sc" ++
    codes "ript\":[]},{\"name\":\"t49/5\",\"period\":1,\"script\":[]},{\"name\":\"t49/6\",\"period\":1,\"script\":[]},{\"name\":\"t" ++
    codes "49/7\",\"period\":1,\"script\":[]}]},{\"name\":\"n50\",\"timers\":[{\"name\":\"t50/0\",\"period\":1,\"script\":[]},{\"na" ++
    codes "me\":\"t50/1\",\"period\":1,\"script\":[]},{\"name\":\"t50/2\",\"period\":1,\"script\":[]},{\"name\":\"t50/3\",\"period\"" ++
    codes ":1,\"script\":[]},{\"name\":\"t50/4\",\"period\":1,\"script\":[]},{\"name\":\"t50/5\",\"period\":1,\"script\":[]},{\"na" ++
    codes "me\":\"t50/6\",\"period\":1,\"script\":[]},{\"name\":\"t50/7\",\"period\":1,\"script\":[]}]},{\"name\":\"n51\",\"timers\"" ++
    codes ":[{\"name\":\"t51/0\",\"period\":1,\"script\":[]},{\"name\":\"t51/1\",\"period\":1,\"script\":[]},{\"name\":\"t51/2\",\"p" ++
    codes "eriod\":1,\"script\":[]},{\"name\":\"t51/3\",\"period\":1,\"script\":[]},{\"name\":\"t51/4\",\"period\":1,\"script\":[]" ++
    codes "},{\"name\":\"t51/5\",\"period\":1,\"script\":[]},{\"name\":\"t51/6\",\"period\":1,\"script\":[]},{\"name\":\"t51/7\",\"p" ++
    codes "eriod\":1,\"script\":[]}]},{\"name\":\"n52\",\"timers\":[{\"name\":\"t52/0\",\"period\":1,\"script\":[]},{\"name\":\"t52" ++
    codes "/1\",\"period\":1,\"script\":[]},{\"name\":\"t52/2\",\"period\":1,\"script\":[]},{\"name\":\"t52/3\",\"period\":1,\"scri" ++
    codes "pt\":[]},{\"name\":\"t52/4\",\"period\":1,\"script\":[]},{\"name\":\"t52/5\",\"period\":1,\"script\":[]},{\"name\":\"t52" ++
    codes "/6\",\"period\":1,\"script\":[]},{\"name\":\"t52/7\",\"period\":1,\"script\":[]}]},{\"name\":\"n53\",\"timers\":[{\"name" ++
    codes "\":\"t53/0\",\"period\":1,\"script\":[]},{\"name\":\"t53/1\",\"period\":1,\"script\":[]},{\"name\":\"t53/2\",\"period\":1" ++
    codes ",\"script\":[]},{\"name\":\"t53/3\",\"period\":1,\"script\":[]},{\"name\":\"t53/4\",\"period\":1,\"script\":[]},{\"name" ++
    codes "\":\"t53/5\",\"period\":1,\"script\":[]},{\"name\":\"t53/6\",\"period\":1,\"script\":[]},{\"name\":\"t53/7\",\"period\":1" ++
    codes ",\"script\":[]}]},{\"name\":\"n54\",\"timers\":[{\"name\":\"t54/0\",\"period\":1,\"script\":[]},{\"name\":\"t54/1\",\"per" ++
    codes "iod\":1,\"script\":[]},{\"name\":\"t54/2\",\"period\":1,\"script\":[]},{\"name\":\"t54/3\",\"period\":1,\"script\":[]}," ++
    codes "{\"name\":\"t54/4\",\"period\":1,\"script\":[]},{\"name\":\"t54/5\",\"period\":1,\"script\":[]},{\"name\":\"t54/6\",\"per" ++
    codes "iod\":1,\"script\":[]},{\"name\":\"t54/7\",\"period\":1,\"script\":[]}]},{\"name\":\"n55\",\"timers\":[{\"name\":\"t55/0" ++
    codes "\",\"period\":1,\"script\":[]},{\"name\":\"t55/1\",\"period\":1,\"script\":[]},{\"name\":\"t55/2\",\"period\":1,\"script" ++
    codes "\":[]},{\"name\":\"t55/3\",\"period\":1,\"script\":[]},{\"name\":\"t55/4\",\"period\":1,\"script\":[]},{\"name\":\"t55/5" ++
    codes "\",\"period\":1,\"script\":[]},{\"name\":\"t55/6\",\"period\":1,\"script\":[]},{\"name\":\"t55/7\",\"period\":1,\"script" ++
    codes "\":[]}]},{\"name\":\"n56\",\"timers\":[{\"name\":\"t56/0\",\"period\":1,\"script\":[]},{\"name\":\"t56/1\",\"period\":1,\"" ++
    codes "script\":[]},{\"name\":\"t56/2\",\"period\":1,\"script\":[]},{\"name\":\"t56/3\",\"period\":1,\"script\":[]},{\"name\":" ++
    codes "\"t56/4\",\"period\":1,\"script\":[]},{\"name\":\"t56/5\",\"period\":1,\"script\":[]},{\"name\":\"t56/6\",\"period\":1,\"" ++
    codes "script\":[]},{\"name\":\"t56/7\",\"period\":1,\"script\":[]}]},{\"name\":\"n57\",\"timers\":[{\"name\":\"t57/0\",\"perio" ++
    codes "d\":1,\"script\":[]},{\"name\":\"t57/1\",\"period\":1,\"script\":[]},{\"name\":\"t57/2\",\"period\":1,\"script\":[]},{\"" ++
    codes "name\":\"t57/3\",\"period\":1,\"script\":[]},{\"name\":\"t57/4\",\"period\":1,\"script\":[]},{\"name\":\"t57/5\",\"perio" ++
    codes "d\":1,\"script\":[]},{\"name\":\"t57/6\",\"period\":1,\"script\":[]},{\"name\":\"t57/7\",\"period\":1,\"script\":[]}]}," ++
    codes "{\"name\":\"n58\",\"timers\":[{\"name\":\"t58/0\",\"period\":1,\"script\":[]},{\"name\":\"t58/1\",\"period\":1,\"script\":" ++
    codes "[]},{\"name\":\"t58/2\",\"period\":1,\"script\":[]},{\"name\":\"t58/3\",\"period\":1,\"script\":[]},{\"name\":\"t58/4\"," ++
    codes "\"period\":1,\"script\":[]},{\"name\":\"t58/5\",\"period\":1,\"script\":[]},{\"name\":\"t58/6\",\"period\":1,\"script\":" ++
    codes "[]},{\"name\":\"t58/7\",\"period\":1,\"script\":[]}]},{\"name\":\"n59\",\"timers\":[{\"name\":\"t59/0\",\"period\":1,\"sc" ++
    codes "ript\":[]},{\"name\":\"t59/1\",\"period\":1,\"script\":[]},{\"name\":\"t59/2\",\"period\":1,\"script\":[]},{\"name\":\"t" ++
    codes "59/3\",\"period\":1,\"script\":[]},{\"name\":\"t59/4\",\"period\":1,\"script\":[]},{\"name\":\"t59/5\",\"period\":1,\"sc" ++
    codes "ript\":[]},{\"name\":\"t59/6\",\"period\":1,\"script\":[]},{\"name\":\"t59/7\",\"period\":1,\"script\":[]}]},{\"name\":" ++
    codes "\"n60\",\"timers\":[{\"name\":\"t60/0\",\"period\":1,\"script\":[]},{\"name\":\"t60/1\",\"period\":1,\"script\":[]},{\"na" ++
    codes "me\":\"t60/2\",\"period\":1,\"script\":[]},{\"name\":\"t60/3\",\"period\":1,\"script\":[]},{\"name\":\"t60/4\",\"period\"" ++
    codes ":1,\"script\":[]},{\"name\":\"t60/5\",\"period\":1,\"script\":[]},{\"name\":\"t60/6\",\"period\":1,\"script\":[]},{\"na" ++
    codes "me\":\"t60/7\",\"period\":1,\"script\":[]}]},{\"name\":\"n61\",\"timers\":[{\"name\":\"t61/0\",\"period\":1,\"script\":[]" ++
    codes "},{\"name\":\"t61/1\",\"period\":1,\"script\":[]},{\"name\":\"t61/2\",\"period\":1,\"script\":[]},{\"name\":\"t61/3\",\"p" ++
    codes "eriod\":1,\"script\":[]},{\"name\":\"t61/4\",\"period\":1,\"script\":[]},{\"name\":\"t61/5\",\"period\":1,\"script\":[]" ++
    codes "},{\"name\":\"t61/6\",\"period\":1,\"script\":[]},{\"name\":\"t61/7\",\"period\":1,\"script\":[]}]},{\"name\":\"n62\",\"t" ++
    codes "imers\":[{\"name\":\"t62/0\",\"period\":1,\"script\":[]},{\"name\":\"t62/1\",\"period\":1,\"script\":[]},{\"name\":\"t62" ++
    codes "/2\",\"period\":1,\"script\":[]},{\"name\":\"t62/3\",\"period\":1,\"script\":[]},{\"name\":\"t62/4\",\"period\":1,\"scri" ++
    codes "pt\":[]},{\"name\":\"t62/5\",\"period\":1,\"script\":[]},{\"name\":\"t62/6\",\"period\":1,\"script\":[]},{\"name\":\"t62" ++
    codes "/7\",\"period\":1,\"script\":[]}]},{\"name\":\"n63\",\"timers\":[{\"name\":\"t63/0\",\"period\":1,\"script\":[]},{\"name" ++
    codes "\":\"t63/1\",\"period\":1,\"script\":[]},{\"name\":\"t63/2\",\"period\":1,\"script\":[]},{\"name\":\"t63/3\",\"period\":1" ++
    codes ",\"script\":[]},{\"name\":\"t63/4\",\"period\":1,\"script\":[]},{\"name\":\"t63/5\",\"period\":1,\"script\":[]},{\"name" ++
    codes "\":\"t63/6\",\"period\":1,\"script\":[]},{\"name\":\"t63/7\",\"period\":1,\"script\":[]}]}]}" ++
    []

abbrev pub limits_64_nodes_of_8_timers_transcript : List ℕ
limits_64_nodes_of_8_timers_transcript =
    codes "end 0" ++ 10 ∷
    []

-- cases/limits/65_nodes.json
abbrev pub limits_65_nodes_document : List ℕ
limits_65_nodes_document =
    codes "{\"version\":1,\"nodes\":[{\"name\":\"n0\"},{\"name\":\"n1\"},{\"name\":\"n2\"},{\"name\":\"n3\"},{\"name\":\"n4\"},{\"name\":" ++
    codes "\"n5\"},{\"name\":\"n6\"},{\"name\":\"n7\"},{\"name\":\"n8\"},{\"name\":\"n9\"},{\"name\":\"n10\"},{\"name\":\"n11\"},{\"name\":" ++
    codes "\"n12\"},{\"name\":\"n13\"},{\"name\":\"n14\"},{\"name\":\"n15\"},{\"name\":\"n16\"},{\"name\":\"n17\"},{\"name\":\"n18\"},{\"n" ++
    codes "ame\":\"n19\"},{\"name\":\"n20\"},{\"name\":\"n21\"},{\"name\":\"n22\"},{\"name\":\"n23\"},{\"name\":\"n24\"},{\"name\":\"n25\"" ++
    codes "},{\"name\":\"n26\"},{\"name\":\"n27\"},{\"name\":\"n28\"},{\"name\":\"n29\"},{\"name\":\"n30\"},{\"name\":\"n31\"},{\"name\":" ++
    codes "\"n32\"},{\"name\":\"n33\"},{\"name\":\"n34\"},{\"name\":\"n35\"},{\"name\":\"n36\"},{\"name\":\"n37\"},{\"name\":\"n38\"},{\"n" ++
    codes "ame\":\"n39\"},{\"name\":\"n40\"},{\"name\":\"n41\"},{\"name\":\"n42\"},{\"name\":\"n43\"},{\"name\":\"n44\"},{\"name\":\"n45\"" ++
    codes "},{\"name\":\"n46\"},{\"name\":\"n47\"},{\"name\":\"n48\"},{\"name\":\"n49\"},{\"name\":\"n50\"},{\"name\":\"n51\"},{\"name\":" ++
    codes "\"n52\"},{\"name\":\"n53\"},{\"name\":\"n54\"},{\"name\":\"n55\"},{\"name\":\"n56\"},{\"name\":\"n57\"},{\"name\":\"n58\"},{\"n" ++
    codes "ame\":\"n59\"},{\"name\":\"n60\"},{\"name\":\"n61\"},{\"name\":\"n62\"},{\"name\":\"n63\"},{\"name\":\"n64\"}]}" ++ 10 ∷
    []

-- cases/limits/a_depth_of_0.json
abbrev pub a_depth_of_0_document : List ℕ
a_depth_of_0_document =
    codes "{\"version\":1,\"nodes\":[{\"name\":\"n\",\"services\":[{\"name\":\"s\",\"depth\":0}]}]}" ++ 10 ∷
    []

-- cases/limits/a_depth_of_1024.json
abbrev pub a_depth_of_1024_document : List ℕ
a_depth_of_1024_document =
    codes "{\"version\":1,\"topics\":[\"x\"],\"nodes\":[{\"name\":\"n\",\"subscriptions\":[{\"name\":\"s\",\"topic\":\"x\",\"depth\":10" ++
    codes "24,\"script\":[[\"log\",\"in\"]]},{\"name\":\"one\",\"topic\":\"x\",\"depth\":1}]}],\"moments\":[1,1,1],\"feed\":[{\"roun" ++
    codes "d\":1,\"topic\":\"x\",\"value\":5},{\"round\":1,\"topic\":\"x\",\"value\":6}]}" ++ 10 ∷
    []

abbrev pub a_depth_of_1024_transcript : List ℕ
a_depth_of_1024_transcript =
    codes "round 1 1" ++ 10 ∷
    codes "drop one message 5" ++ 10 ∷
    codes "run s message 5 0" ++ 10 ∷
    codes "log s 5" ++ 10 ∷
    codes "run one message 6 0" ++ 10 ∷
    codes "round 2 1" ++ 10 ∷
    codes "run s message 6 0" ++ 10 ∷
    codes "log s 6" ++ 10 ∷
    codes "round 3 1" ++ 10 ∷
    codes "end 3" ++ 10 ∷
    []

-- cases/limits/a_depth_of_1025.json
abbrev pub a_depth_of_1025_document : List ℕ
a_depth_of_1025_document =
    codes "{\"version\":1,\"nodes\":[{\"name\":\"n\",\"services\":[{\"name\":\"s\",\"depth\":1025}]}]}" ++ 10 ∷
    []

-- cases/limits/a_moment_that_is_too_late.json
abbrev pub a_moment_that_is_too_late_document : List ℕ
a_moment_that_is_too_late_document =
    codes "{\"version\":1,\"moments\":[4611686018427387905]}" ++ 10 ∷
    []

-- cases/limits/a_period_of_0.json
abbrev pub a_period_of_0_document : List ℕ
a_period_of_0_document =
    codes "{\"version\":1,\"nodes\":[{\"name\":\"n\",\"timers\":[{\"name\":\"t\",\"period\":0}]}]}" ++ 10 ∷
    []

-- cases/limits/a_period_of_0_and_an_unknown_topic.json
abbrev pub a_period_of_0_and_an_unknown_topic_document : List ℕ
a_period_of_0_and_an_unknown_topic_document =
    codes "{\"version\":1,\"nodes\":[{\"name\":\"n\",\"timers\":[{\"name\":\"t\",\"period\":0,\"script\":[[\"pub\",\"x\",1]]}]}]}" ++ 10 ∷
    []

-- cases/limits/a_stamp_that_is_too_late.json
abbrev pub a_stamp_that_is_too_late_document : List ℕ
a_stamp_that_is_too_late_document =
    codes "{\"version\":1,\"topics\":[\"x\"],\"nodes\":[{\"name\":\"n\",\"actions\":[{\"name\":\"a\"}]}],\"moments\":[1,2],\"feed\":[" ++
    codes "{\"round\":1,\"action\":\"a\",\"stamp\":4611686018427387905,\"cancel\":\"00000000-0000-0000-0000-000000000000\"}" ++
    codes "]}" ++ 10 ∷
    []

-- cases/limits/a_timeout_that_is_too_long.json
abbrev pub a_timeout_that_is_too_long_document : List ℕ
a_timeout_that_is_too_long_document =
    codes "{\"version\":1,\"nodes\":[{\"name\":\"n\",\"actions\":[{\"name\":\"a\",\"result_timeout\":4611686018427387905}]}]}" ++ 10 ∷
    []

-- cases/limits/greatest_moment.json
abbrev pub greatest_moment_document : List ℕ
greatest_moment_document =
    codes "{\"version\":1,\"moments\":[4611686018427387904]}" ++
    []

abbrev pub greatest_moment_transcript : List ℕ
greatest_moment_transcript =
    codes "round 1 4611686018427387904" ++ 10 ∷
    codes "end 1" ++ 10 ∷
    []

-- cases/limits/greatest_period.json
abbrev pub greatest_period_document : List ℕ
greatest_period_document =
    codes "{\"version\":1,\"nodes\":[{\"name\":\"n\",\"timers\":[{\"name\":\"t\",\"period\":4611686018427387904}]}],\"moments\":[" ++
    codes "4611686018427387903,4611686018427387904,4611686018427387904]}" ++
    []

abbrev pub greatest_period_transcript : List ℕ
greatest_period_transcript =
    codes "round 1 4611686018427387903" ++ 10 ∷
    codes "round 2 4611686018427387904" ++ 10 ∷
    codes "run t timer 4611686018427387904 0" ++ 10 ∷
    codes "round 3 4611686018427387904" ++ 10 ∷
    codes "end 3" ++ 10 ∷
    []

-- cases/limits/one_tick_beyond_the_greatest_period.json
abbrev pub one_tick_beyond_the_greatest_period_document : List ℕ
one_tick_beyond_the_greatest_period_document =
    codes "{\"version\":1,\"nodes\":[{\"name\":\"n\",\"timers\":[{\"name\":\"t\",\"period\":4611686018427387905}]}]}" ++ 10 ∷
    []

-- cases/limits/the_greatest_period.json
abbrev pub the_greatest_period_document : List ℕ
the_greatest_period_document =
    codes "{\"version\":1,\"nodes\":[{\"name\":\"n\",\"timers\":[{\"name\":\"t\",\"period\":4611686018427387904}]}]}" ++ 10 ∷
    []

abbrev pub the_greatest_period_transcript : List ℕ
the_greatest_period_transcript =
    codes "end 0" ++ 10 ∷
    []

-- cases/limits/the_latest_stamp.json
abbrev pub the_latest_stamp_document : List ℕ
the_latest_stamp_document =
    codes "{\"version\":1,\"nodes\":[{\"name\":\"n\",\"actions\":[{\"name\":\"a\",\"on_goal\":[[\"decide\",3]],\"on_cancel\":[[\"dec" ++
    codes "ide\",2]]}]}],\"moments\":[4611686018427387904,4611686018427387904,4611686018427387904],\"feed\":[{\"round" ++
    codes "\":1,\"action\":\"a\",\"goal\":\"00000000-0000-0000-0000-000000000001\",\"value\":5},{\"round\":2,\"action\":\"a\",\"c" ++
    codes "ancel\":\"00000000-0000-0000-0000-000000000000\",\"stamp\":4611686018427387904}]}" ++ 10 ∷
    []

abbrev pub the_latest_stamp_transcript : List ℕ
the_latest_stamp_transcript =
    codes "round 1 4611686018427387904" ++ 10 ∷
    codes "run a goal 5 0 00000000-0000-0000-0000-000000000001" ++ 10 ∷
    codes "decide a 00000000-0000-0000-0000-000000000001 3" ++ 10 ∷
    codes "state a 00000000-0000-0000-0000-000000000001 1" ++ 10 ∷
    codes "round 2 4611686018427387904" ++ 10 ∷
    codes "run a cancel 4611686018427387904 1 00000000-0000-0000-0000-000000000000" ++ 10 ∷
    codes "state a 00000000-0000-0000-0000-000000000001 3" ++ 10 ∷
    codes "code a 0 1" ++ 10 ∷
    codes "round 3 4611686018427387904" ++ 10 ∷
    codes "run a poll 5 1 00000000-0000-0000-0000-000000000001" ++ 10 ∷
    codes "end 3" ++ 10 ∷
    []

-- cases/limits/the_longest_timeout.json
abbrev pub the_longest_timeout_document : List ℕ
the_longest_timeout_document =
    codes "{\"version\":1,\"nodes\":[{\"name\":\"n\",\"actions\":[{\"name\":\"a\",\"result_timeout\":4611686018427387904,\"on_go" ++
    codes "al\":[[\"decide\",2]],\"script\":[[\"succeed\",\"in\"]]}]}],\"moments\":[0,1,4611686018427387904,46116860184273" ++
    codes "87904],\"feed\":[{\"round\":1,\"action\":\"a\",\"goal\":\"00000000-0000-0000-0000-000000000001\",\"value\":5},{\"ro" ++
    codes "und\":3,\"action\":\"a\",\"goal\":\"00000000-0000-0000-0000-000000000001\",\"value\":6}]}" ++ 10 ∷
    []

abbrev pub the_longest_timeout_transcript : List ℕ
the_longest_timeout_transcript =
    codes "round 1 0" ++ 10 ∷
    codes "run a goal 5 0 00000000-0000-0000-0000-000000000001" ++ 10 ∷
    codes "decide a 00000000-0000-0000-0000-000000000001 2" ++ 10 ∷
    codes "state a 00000000-0000-0000-0000-000000000001 1" ++ 10 ∷
    codes "state a 00000000-0000-0000-0000-000000000001 2" ++ 10 ∷
    codes "round 2 1" ++ 10 ∷
    codes "run a poll 5 0 00000000-0000-0000-0000-000000000001" ++ 10 ∷
    codes "state a 00000000-0000-0000-0000-000000000001 4" ++ 10 ∷
    codes "round 3 4611686018427387904" ++ 10 ∷
    codes "run a goal 6 0 00000000-0000-0000-0000-000000000001" ++ 10 ∷
    codes "decide a 00000000-0000-0000-0000-000000000001 1" ++ 10 ∷
    codes "round 4 4611686018427387904" ++ 10 ∷
    codes "end 4" ++ 10 ∷
    []
